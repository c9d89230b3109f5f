-- Which bytes of a flash in segments count for a header area. What may be written elsewhere, while codes and entries
-- stay?
use Rattle.std.specs.Prelude.{◌≡◌, ◌≢◌, ℕ, ◌+◌, ◌*◌, ◌<◌, ◌≤◌, ◌⊎◌, ◌==◌, if◌then◌else◌}
use Rattle.std.specs.Prelude.{List, length, take, slice_index}
use Rattle.mb_model.specs.declared.limits.TheConstants.{SECTOR_LENGTH}
use Rattle.mb_model.specs.declared.stored.Slot.{Slot}
use Rattle.mb_model.specs.declared.stored.Header.{Header}
use Rattle.mb_model.specs.memories.Sectors.{header_sector, log_sector}
use Rattle.mb_model.specs.memories.Flash.{sector, code_slot, HoldsHeader}
use Rattle.mb_model.specs.memories.Spared.{AgreeInUnused}

-- the slot that a header names for a layer from 1 to 3
abbrev pub slot_in : Header → ℕ → Slot
slot_in header layer = if layer == 1 then header.one else if layer == 2 then header.two else header.three

-- ---- what counts

-- the code slots that a header names hold the same bytes
pub record AgreeInSlots (flash other : List ℕ) (header : Header) : Type 0 where
  pub slots : (layer : ℕ) → 1 ≤ layer → layer ≤ 3 → (slot_in header layer).which ≢ 0
      → code_slot other layer (slot_in header layer).which ≡ code_slot flash layer (slot_in header layer).which

-- Two flashes have the same bytes wherever these count for a header area: in the area itself, in the slots that its
-- header names, and in the sectors of the log below its count. They also have the same bytes in the sectors that hold
-- nothing, to which no write goes. That no write goes to the sectors that hold nothing is a part of this, by which each
-- write is described, and no clause beside it at each call.
pub record AgreeForArea (flash other : List ℕ) (area : ℕ) : Type 0 where
  pub header : sector other (header_sector area) ≡ sector flash (header_sector area)
  pub slots : (header : Header) → HoldsHeader flash area header → AgreeInSlots flash other header
  pub log : (header : Header) → HoldsHeader flash area header → (position : ℕ) → position < header.signed
      → sector other (log_sector position) ≡ sector flash (log_sector position)
  pub unused : AgreeInUnused flash other

-- ---- what does not count

-- no header of the area counts the entry at this position as signed
abbrev pub IsUncounted : List ℕ → ℕ → ℕ → Type 0
IsUncounted flash area position = (header : Header) → HoldsHeader flash area header → header.signed ≤ position

-- no header of the area names this slot of the layer
abbrev pub IsFreeSlot : List ℕ → ℕ → ℕ → ℕ → Type 0
IsFreeSlot flash area layer slot =
    (header : Header) → HoldsHeader flash area header → (slot_in header layer).which ≢ slot

-- ---- writes

-- two flashes of one length have the same bytes outside of `count` sectors from sector n on
pub record DiffersOnlyIn (n count : ℕ) (before after : List ℕ) : Type 0 where
  pub sized : length after ≡ length before
  pub bytes : (offset : ℕ) → (offset < SECTOR_LENGTH * n) ⊎ (SECTOR_LENGTH * n + SECTOR_LENGTH * count ≤ offset)
      → slice_index after offset ≡ slice_index before offset

-- bytes begin with other bytes
abbrev pub BeginsWithBytes : List ℕ → List ℕ → Type 0
BeginsWithBytes bytes front = take (length front) bytes ≡ front

-- A sector was written, and not torn: it begins with these bytes, and no other sector has changed.
pub record IsSectorWritten (n : ℕ) (bytes before after : List ℕ) : Type 0 where
  pub same : DiffersOnlyIn n 1 before after
  pub begins : BeginsWithBytes (sector after n) bytes
