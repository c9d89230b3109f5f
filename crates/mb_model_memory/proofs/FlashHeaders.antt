-- Headers and texts that an order and its settling write have spellings.
use Rattle.std.proofs.Common.{◌≡◌, ◌≤◌, ℕ, ◌+◌, ◌-◌, List, [], ◌∷◌, length, Bool, true, false, refl, arith}
use Rattle.std.specs.Prelude.{◌==◌, nat_le, not, IfSome, if◌then◌else◌}
use Rattle.std.proofs.lemmas.List.Elements.{All-head, All-tail}
use Rattle.mb_format.specs.Combinators.{items}
use Rattle.mb_model.specs.declared.entry.Entry.{Entry}
use Rattle.mb_model.specs.declared.order.Act.{Act}
use Rattle.mb_model.specs.declared.order.Act.TheVariants as act
use Rattle.mb_model.specs.declared.stored.Slot.{Slot}
use Rattle.mb_model.specs.records.EntryFormat.{entry_format}
use Rattle.mb_model.specs.records.HeaderFormat.{code_length_format, slot_format, entry_bytes_format, unsigned_limit, unsigned_format}
use Rattle.mb_model.specs.records.OrderFormat.{differs_in, act_by}
use Rattle.mb_model.specs.owners.Rules.{kind_of}
use Rattle.mb_model.specs.owners.Layers.{are_equal}
use Rattle.mb_model.proofs.FormatBounds.{entry_short}
use Rattle.mb_model_lemmas.proofs.WrittenLemmas.{entry_some, none_unsigned}
use Rattle.mb_model_memory.specs.NextHeaders.{code_brought, slot_after}
use Rattle.mb_model_memory.specs.FlashLaws.{EntriesHaveTexts, OrdersBringShortCode, OrderHeadersAreAllowed, SettledHeadersAreAllowed}
use Rattle.mb_model.proofs.AllowedFields.{header_fields, header_allowed_by}
use Rattle.mb_model_memory.proofs.StorableFormats.{code_short}
use Rattle.mb_model_memory.proofs.StorableOrders.{order_act}

-- ---- texts

text_allowed : (entry : Entry) → entry_format.Allowed entry → entry_bytes_format.Allowed (entry_format.spelling entry)
unfolding entry_bytes_format
text_allowed entry is = ((omega (arith, entry_some entry), omega (arith, entry_short.short entry is)), refl)

few_by : (b : Bool) (signed n : ℕ) → nat_le (signed + 2) 128 ≡ b → n ≤ 2 → signed + n ≤ 128 → n ≤ (if b then 2 else 128 - signed)
few_by true signed n e few room = few
few_by false signed n e few room = omega (arith, room)

room_is : (signed n : ℕ) → n ≤ 2 → signed + n ≤ 128 → n ≤ unsigned_limit signed
room_is signed n few room = few_by (nat_le (signed + 2) 128) signed n refl few room

pub entries_have_texts : EntriesHaveTexts
unfolding unsigned_format items
entries_have_texts [] signed few room are = (((omega arith, omega arith), refl), tt)
entries_have_texts (u ∷ []) signed few room are =
    let is : entry_format.Allowed u = All-head entry_format.Allowed u [] are in
    (((omega arith, room_is signed 1 few room), (text_allowed u is, refl)), record { allowed = is; whole = refl })
entries_have_texts (u ∷ v ∷ []) signed few room are =
    let is : entry_format.Allowed u = All-head entry_format.Allowed u (v ∷ []) are in
    let is' : entry_format.Allowed v = All-head entry_format.Allowed v [] (All-tail entry_format.Allowed u (v ∷ []) are) in
    (((omega arith, room_is signed 2 few room), (text_allowed u is, (text_allowed v is', refl))), (record { allowed = is; whole = refl }, record { allowed = is'; whole = refl }))
entries_have_texts (u ∷ v ∷ w ∷ us) signed few room are = absurd (omega (arith, few))

-- ---- code

brought_by : (does : Act) → (act_by (kind_of does) (differs_in does)).Allowed does → IfSome (code_brought does) (λ code. length code ≤ 32768)
brought_by (act.Establish owner trust) is = tt
brought_by act.Surrender is = tt
brought_by (act.Load payload) is = code_short (not (are_equal payload.trust)) payload is
brought_by (act.Emergency payload) is = code_short (not (are_equal payload.trust)) payload is
brought_by (act.NewKey kind) is = tt

pub code_brought_short : OrdersBringShortCode
code_brought_short order allowed = brought_by order.act (order_act order allowed)

-- ---- headers

no_slot_allowed : slot_format.Allowed (record { which = 0; length = 0 })
unfolding slot_format code_length_format
no_slot_allowed = ((omega arith, omega arith), (omega arith, omega arith))

new_slot_allowed : (b : Bool) (code : List ℕ) → length code ≤ 32768 → slot_format.Allowed (record { which = if b then 2 else 1; length = length code })
unfolding slot_format code_length_format
new_slot_allowed true code short = ((omega arith, omega arith), (omega arith, short))
new_slot_allowed false code short = ((omega arith, omega arith), (omega arith, short))

slot_after_allowed : (old : Slot) (does : Act) → slot_format.Allowed old → IfSome (code_brought does) (λ code. length code ≤ 32768) → slot_format.Allowed (slot_after old does)
slot_after_allowed old (act.Establish owner trust) is short = no_slot_allowed
slot_after_allowed old act.Surrender is short = no_slot_allowed
slot_after_allowed old (act.Load payload) is short = new_slot_allowed (old.which == 1) payload.code short
slot_after_allowed old (act.Emergency payload) is short = new_slot_allowed (old.which == 1) payload.code short
slot_after_allowed old (act.NewKey kind) is short = is

slot_by : (b : Bool) (new old : Slot) → slot_format.Allowed new → slot_format.Allowed old → slot_format.Allowed (if b then new else old)
slot_by true new old is was = is
slot_by false new old is was = was

pub header_after_allowed : OrderHeadersAreAllowed
header_after_allowed old layer does first second was short texts =
    let its = header_fields old was in
    header_allowed_by _ (record {
      one = slot_by (layer == 1) (slot_after old.one does) old.one (slot_after_allowed old.one does its.one short) its.one;
      two = slot_by (layer == 2) (slot_after old.two does) old.two (slot_after_allowed old.two does its.two short) its.two;
      three =
          slot_by (layer == 3) (slot_after old.three does) old.three (slot_after_allowed old.three does its.three short) its.three;
      some_signed = its.some_signed;
      few_signed = its.few_signed;
      texts = texts;
    })

pub header_settled_allowed : SettledHeadersAreAllowed
header_settled_allowed old more was room =
    let its = header_fields old was in
    header_allowed_by _ (record {
      one = its.one;
      two = its.two;
      three = its.three;
      some_signed = omega (arith, its.some_signed);
      few_signed = room;
      texts = none_unsigned (old.signed + more);
    })
