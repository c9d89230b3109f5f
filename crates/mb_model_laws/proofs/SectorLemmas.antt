-- Slots of a flash in segments stand one after another, numbered by twice their layer and their number.
use Rattle.std.proofs.Common.{◌≡◌, ℕ, ◌+◌, ◌*◌, ◌<◌, ◌≤◌, ◌⊎◌, Bool, true, false, ltb, refl, inl, inr, arith}
use Rattle.std.proofs.lemmas.Bool.{ltb-true, ltb-false}
use Rattle.mb_model.specs.memories.Sectors.{code_sector}
use Rattle.mb_model_laws.specs.SectorLaws.{IsSlotOf, SlotsAreApart, SlotsAreBetween}

ends_before : (layer slot other_layer other_slot : ℕ) → IsSlotOf layer slot → IsSlotOf other_layer other_slot
    → 2 * layer + slot < 2 * other_layer + other_slot → code_sector layer slot + 8 ≤ code_sector other_layer other_slot
ends_before layer slot other_layer other_slot is other less =
    omega (arith, less, is.least_layer, is.least_slot, is.most_slot, other.least_layer, other.least_slot, other.most_slot)

begins_after : (b : Bool) (layer slot other_layer other_slot : ℕ) → IsSlotOf layer slot → IsSlotOf other_layer other_slot
    → (layer ≡ other_layer → slot ≡ other_slot → ⊥) → 2 * other_layer + other_slot ≤ 2 * layer + slot
    → ltb (2 * other_layer + other_slot) (2 * layer + slot) ≡ b → code_sector other_layer other_slot + 8 ≤ code_sector layer slot
begins_after true layer slot other_layer other_slot is other differ most e =
    ends_before other_layer other_slot layer slot other is (ltb-true (2 * other_layer + other_slot) (2 * layer + slot) e)
begins_after false layer slot other_layer other_slot is other differ most e =
    let least = ltb-false (2 * other_layer + other_slot) (2 * layer + slot) e in
    let same_layer : layer ≡ other_layer = omega (arith, most, least, is.least_slot, is.most_slot, other.least_slot, other.most_slot) in
    absurd (differ same_layer (omega (arith, most, least, same_layer)))

apart_by : (b : Bool) (layer slot other_layer other_slot : ℕ) → IsSlotOf layer slot → IsSlotOf other_layer other_slot
    → (layer ≡ other_layer → slot ≡ other_slot → ⊥) → ltb (2 * layer + slot) (2 * other_layer + other_slot) ≡ b
    → (code_sector layer slot + 8 ≤ code_sector other_layer other_slot) ⊎ (code_sector other_layer other_slot + 8 ≤ code_sector layer slot)
apart_by true layer slot other_layer other_slot is other differ e =
    inl (ends_before layer slot other_layer other_slot is other (ltb-true (2 * layer + slot) (2 * other_layer + other_slot) e))
apart_by false layer slot other_layer other_slot is other differ e =
    let most = ltb-false (2 * layer + slot) (2 * other_layer + other_slot) e in
    inr (begins_after (ltb (2 * other_layer + other_slot) (2 * layer + slot)) layer slot other_layer other_slot is other differ most refl)

pub slots_apart : SlotsAreApart
slots_apart layer slot other_layer other_slot is other differ =
    apart_by (ltb (2 * layer + slot) (2 * other_layer + other_slot)) layer slot other_layer other_slot is other differ refl

pub slots_between : SlotsAreBetween
slots_between layer slot area position is small =
    (omega (arith, small, is.least_layer, is.least_slot), omega (arith, is.least_layer, is.most_layer, is.least_slot, is.most_slot))
