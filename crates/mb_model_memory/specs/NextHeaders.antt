-- Which header an order leaves, and which one its settling leaves. Where does new code go, and when does an entry
-- count as signed?
use Rattle.std.specs.Prelude.{◌≡◌, ℕ, ◌+◌, ◌==◌, List, length, map, IfSome, Option, None, Some, if◌then◌else◌}
use Rattle.mb_model.specs.declared.entry.Entry.{Entry}
use Rattle.mb_model.specs.declared.order.Act.{Act}
use Rattle.mb_model.specs.declared.order.Act.TheVariants as act
use Rattle.mb_model.specs.declared.stored.Slot.{Slot}
use Rattle.mb_model.specs.declared.stored.Header.{Header}
use Rattle.mb_model.specs.records.EntryFormat.{entry_format}
use Rattle.mb_model.specs.memories.Sectors.{code_sector}
use Rattle.mb_model.specs.memories.Flash.{code_slot}
use Rattle.mb_model_memory.specs.FlashInForce.{DiffersOnlyIn, BeginsWithBytes}

-- ---- code

-- the slot of a layer that is not named; slot 1 if none is
abbrev pub free_slot : Slot → ℕ
free_slot slot = if slot.which == 1 then 2 else 1

-- the code that an order brings
abbrev pub code_brought : Act → Option (List ℕ)
code_brought (act.Establish owner trust) = None
code_brought act.Surrender = None
code_brought (act.Load payload) = Some payload.code
code_brought (act.Emergency payload) = Some payload.code
code_brought (act.NewKey key_kind) = None

-- the code that an order brings, if any, stands in the free slot of its layer
abbrev pub HasNewCode : List ℕ → ℕ → Slot → Act → Type 0
HasNewCode flash layer slot act = IfSome (code_brought act) (BeginsWithBytes (code_slot flash layer (free_slot slot)))

-- new code, or none, was written to the free slot of its layer, and not torn
abbrev pub IsCodeWritten : ℕ → Slot → Option (List ℕ) → List ℕ → List ℕ → Type 0
IsCodeWritten layer slot None before after = after ≡ before
IsCodeWritten layer slot (Some code) before after =
    DiffersOnlyIn (code_sector layer (free_slot slot)) 8 before after
    × BeginsWithBytes (code_slot after layer (free_slot slot)) code

-- ---- headers

-- entries as texts; a header holds the first and the second of these
abbrev pub texts_of_entries : List Entry → List (List ℕ)
texts_of_entries entries = map entry_format.spelling entries

-- where the code of a layer stands after an order for this layer
abbrev pub slot_after : Slot → Act → Slot
slot_after old (act.Establish owner trust) = record { which = 0; length = 0 }
slot_after old act.Surrender = record { which = 0; length = 0 }
slot_after old (act.Load payload) = record { which = free_slot old; length = length payload.code }
slot_after old (act.Emergency payload) = record { which = free_slot old; length = length payload.code }
slot_after old (act.NewKey key_kind) = old

-- the header after an order for a layer, with the texts of entries that are not signed yet
abbrev pub header_after : Header → ℕ → Act → Option (List ℕ) → Option (List ℕ) → Header
header_after old layer act first second = record {
  one = if layer == 1 then slot_after old.one act else old.one;
  two = if layer == 2 then slot_after old.two act else old.two;
  three = if layer == 3 then slot_after old.three act else old.three;
  signed = old.signed;
  first = first;
  second = second;
}

-- the header once its texts are signed entries of the log, as many as `more`
abbrev pub header_settled : Header → ℕ → Header
header_settled old more = record old { signed = old.signed + more; first = None; second = None }
