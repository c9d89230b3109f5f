-- Laws of where things stand in a flash in segments. Can a write to one of them change another?
use Rattle.std.specs.Prelude.{◌≡◌, ℕ, ◌+◌, ◌<◌, ◌≤◌, ◌⊎◌}
use Rattle.mb_model.specs.memories.Sectors.{header_sector, code_sector, log_sector}

-- each of layers 1 to 3 has a slot 1 and a slot 2
pub record IsSlotOf (layer slot : ℕ) : Type 0 where
  pub least_layer : 1 ≤ layer
  pub most_layer : layer ≤ 3
  pub least_slot : 1 ≤ slot
  pub most_slot : slot ≤ 2

-- of two different slots, the eight sectors of one end before those of the other begin
abbrev pub SlotsAreApart : Type 0
SlotsAreApart =
    (layer slot other_layer other_slot : ℕ) → IsSlotOf layer slot → IsSlotOf other_layer other_slot
    → (layer ≡ other_layer → slot ≡ other_slot → ⊥)
    → (code_sector layer slot + 8 ≤ code_sector other_layer other_slot)
    ⊎ (code_sector other_layer other_slot + 8 ≤ code_sector layer slot)

-- slots begin after both header areas, and end before the log
abbrev pub SlotsAreBetween : Type 0
SlotsAreBetween =
    (layer slot area position : ℕ) → IsSlotOf layer slot → area < 2
    → (header_sector area < code_sector layer slot) × (code_sector layer slot + 8 ≤ log_sector position)

-- the sectors of a log of 128 entries lie within the 256 of the flash
abbrev pub LogSectorsFit : Type 0
LogSectorsFit = (position : ℕ) → position < 128 → log_sector position < 256
