-- What a call on a slot of the battery-backed memory needs, and what it may change. Can a write to one slot reach
-- another?
use Rattle.std.specs.Prelude.{◌≡◌, ◌≢◌, ℕ, ◌+◌, ◌<◌, ◌≤◌, ◌%◌, ◌==◌, ◌⊎◌, List, length, slice_index}
use Rattle.std.specs.Prelude.{zero, suc, Bool, true, not, if◌then◌else◌, Result, IsOk, OnOk}
use Rattle.mb_model.specs.declared.limits.TheConstants.{AREA_LENGTH, BBRAM_LENGTH}
use Rattle.mb_model.specs.memories.Memory.{slots, selector_of, area_of_slot, inactive_area_of_slot}
use Rattle.mb_board.specs.Reach.{Reached}
use Rattle.mb_model.specs.outside.Board.{IsLoaded}
use Rattle.mb_board.specs.Calls.{Seen, Ran, counted_write}

-- A slot can be used if power is on, the level of the ratchet reaches it, and a memory is loaded.
pub record CanUse (seen : Seen) (slot : ℕ) : Type 0 where
  pub on : seen.power ≡ true
  pub least : 1 ≤ slot
  pub most : slot ≤ 3
  pub reached : seen.level ≤ slot
  pub loaded : IsLoaded seen.memory

-- ---- where the areas of a slot stand

-- the first area is the current one, by the parity of the selector
abbrev pub is_first_in_force : List ℕ → ℕ → Bool
is_first_in_force bbram slot = selector_of bbram slot % 2 == 0

-- the offset of the first area of a slot, or of its second
abbrev pub area_offset : ℕ → Bool → ℕ
area_offset slot is_first = if is_first then (slots slot).first else (slots slot).second

-- the offset of the current area
abbrev pub current_offset : List ℕ → ℕ → ℕ
current_offset bbram slot = area_offset slot (is_first_in_force bbram slot)

-- the offset of the inactive area
abbrev pub other_offset : List ℕ → ℕ → ℕ
other_offset bbram slot = area_offset slot (not (is_first_in_force bbram slot))

-- this is the wanted offset, and an area stands there that the level reaches
pub record IsAreaAt (level wanted at : ℕ) : Type 0 where
  pub same : at ≡ wanted
  pub within : at + AREA_LENGTH ≤ BBRAM_LENGTH
  pub reached : Reached level at AREA_LENGTH

-- the current area has become the inactive one, and the inactive area the current one
pub record AreExchanged (slot : ℕ) (before after : List ℕ) : Type 0 where
  pub in_force : area_of_slot after slot ≡ inactive_area_of_slot before slot
  pub not_in_force : inactive_area_of_slot after slot ≡ area_of_slot before slot

-- ---- how often is written

-- what a count of write calls is after n more
abbrev pub counted_writes : ℕ → ℕ → ℕ
counted_writes zero writes = writes
counted_writes (suc n) writes = counted_writes n (counted_write writes)

-- unless they were stopped, calls with this result made exactly n write calls
abbrev pub MakesWrites : ℕ → {A E : Type 0} → Result A E → Seen → Seen → Type 0
MakesWrites n result before after = OnOk result (after.meter.writes ≡ counted_writes n before.meter.writes)

-- ---- what stays

-- calls with this result wrote nothing, and were not stopped
abbrev pub WritesNothing : {A E : Type 0} → Result A E → Seen → Seen → Type 0
WritesNothing result before after = IsOk result × (after.memory ≡ before.memory) × (after.meter ≡ before.meter)

-- an offset is outside the n bytes that begin at another
abbrev pub IsOutside : ℕ → ℕ → ℕ → Type 0
IsOutside at n offset = (offset < at) ⊎ (at + n ≤ offset)

-- two memories of one length are the same outside the n bytes that begin at an offset
pub record IsSameOutside (at n : ℕ) (before after : List ℕ) : Type 0 where
  pub sized : length after ≡ length before
  pub bytes : (offset : ℕ) → IsOutside at n offset → slice_index after offset ≡ slice_index before offset

-- two memories of one length are the same but for the selector and the areas of a slot
pub record IsSameBut (slot : ℕ) (before after : List ℕ) : Type 0 where
  pub sized : length after ≡ length before
  pub bytes : (offset : ℕ) → offset ≢ (slots slot).selector → IsOutside (slots slot).first AREA_LENGTH offset
      → IsOutside (slots slot).second AREA_LENGTH offset → slice_index after offset ≡ slice_index before offset

-- two memories of one length are the same but for the area of a slot that is inactive in the first
abbrev pub IsSameButOther : ℕ → List ℕ → List ℕ → Type 0
IsSameButOther slot before after = IsSameOutside (other_offset before slot) AREA_LENGTH before after

-- Calls with this result that wrote only to a slot: to its selector and its two areas.
pub record RanInSlot (n slot : ℕ) {A E : Type 0} (result : Result A E) (before after : Seen) : Type 0 where
  pub ran : Ran n result before after
  pub flash : after.memory.flash ≡ before.memory.flash
  pub rest : IsSameBut slot before.memory.bbram after.memory.bbram

-- Calls with this result that wrote only to the inactive area of a slot.
pub record RanInOther (n slot : ℕ) {A E : Type 0} (result : Result A E) (before after : Seen) : Type 0 where
  pub ran : Ran n result before after
  pub flash : after.memory.flash ≡ before.memory.flash
  pub rest : IsSameButOther slot before.memory.bbram after.memory.bbram
