-- What is written to the flash of a device, and where. Does a write reach anything that counts?
use Rattle.std.specs.Prelude.{◌≡◌, ◌≢◌, ℕ, ◌+◌, ◌-◌, ◌<◌, ◌≤◌, ◌==◌, ◌⊎◌, if◌then◌else◌}
use Rattle.std.specs.Prelude.{List, length, Option, None, Some, IfSome}
use Rattle.mb_model.specs.declared.limits.TheConstants.{CODE_LIMIT, ENTRY_LIMIT, SECTOR_LENGTH}
use Rattle.mb_model.specs.declared.stored.Header.{Header}
use Rattle.mb_model.specs.declared.stored.Slot.{Slot}
use Rattle.mb_model.specs.declared.stored.Root.{Root}
use Rattle.mb_model.specs.outside.Board.{Memory}
use Rattle.mb_model.specs.memories.Flash.{sector, code_slot}
use Rattle.mb_model.specs.records.HeaderFormat.{header_format}
use Rattle.mb_model.specs.memories.Meaning.{RootIn}
use Rattle.mb_model.specs.memories.Sectors.{header_sector, code_sector, BeginsAs}
use Rattle.mb_model_memory.specs.FlashInForce.{slot_in, BeginsWithBytes, IsSectorWritten, IsUncounted}
use Rattle.mb_model_memory.specs.NextHeaders.{free_slot, IsCodeWritten}
use Rattle.mb_flash.specs.Sectors.{sectors_for}
use Rattle.mb_area.specs.Roots.{IsOnlyRoot}
use Rattle.mb_layout.specs.declared.room.Room.{Room}

-- a slot that a header can name: none, or one of the two of a layer, with code that fits
pub record CanBeNamed (slot : Slot) : Type 0 where
  pub which : slot.which ≤ 2
  pub short : slot.length ≤ CODE_LIMIT

-- bytes begin with some header
pub record BeginWithHeader (bytes : List ℕ) : Type 0 where
  pub header : Header
  pub begins : BeginsAs header_format bytes header

-- a header area of a flash holds some header
abbrev pub HoldsSomeHeader : List ℕ → ℕ → Type 0
HoldsSomeHeader flash area = BeginWithHeader (sector flash (header_sector area))

-- the only current root record names this header area, which holds some header
pub record IsCurrentArea (memory : Memory) (area : ℕ) : Type 0 where
  pub root : Root
  pub only : IsOnlyRoot memory.bbram root
  pub area_is : root.area ≡ area
  pub header : HoldsSomeHeader memory.flash area

-- a position of the log, 0 to 127, whose entry the current header does not count
pub record IsFreePosition (memory : Memory) (position : ℕ) : Type 0 where
  pub within : position < ENTRY_LIMIT
  pub uncounted : (root : Root) → RootIn memory.bbram root → IsUncounted memory.flash root.area position

-- what is to be written fits: the code, of layer 1 to 3 or none, in a slot, and the header, not empty, in a sector
pub record IsPlan (room : Room) : Type 0 where
  pub layer : room.code_layer ≤ 3
  pub code : length room.code.items ≤ CODE_LIMIT
  pub some : 1 ≤ length room.header.items
  pub header : length room.header.items ≤ SECTOR_LENGTH

-- the code that is written next
abbrev pub code_to_write : Room → Option (List ℕ)
code_to_write room = if room.code_layer == 0 then None else Some room.code.items

-- how many sectors the code that is written next takes
abbrev pub code_sectors : Room → ℕ
code_sectors room = if room.code_layer == 0 then 0 else sectors_for (length room.code.items)

-- The code of the room was written to the slot of its layer that this header does not name, and then the header of the
-- room to the header area that is not this one.
pub record IsPublicWritten (room : Room) (current : Header) (area : ℕ) (before after : List ℕ) : Type 0 where
  pub between : List ℕ
  pub code : IsCodeWritten room.code_layer (slot_in current room.code_layer) (code_to_write room) before between
  pub header : IsSectorWritten (header_sector (1 - area)) room.header.items between after

-- the code of the room, if it has any, already stands in the slot that it would be written to
abbrev pub IsCodeThere : Room → Header → List ℕ → Type 0
IsCodeThere room current flash =
    IfSome (code_to_write room) (BeginsWithBytes
    (code_slot flash room.code_layer (free_slot (slot_in current room.code_layer))))

-- What would be written stands there already: the code of the room, and its header.
pub record IsPublicThere (room : Room) (current : Header) (area : ℕ) (flash : List ℕ) : Type 0 where
  pub code : IsCodeThere room current flash
  pub header : BeginsWithBytes (sector flash (header_sector (1 - area))) room.header.items

-- Sector n is neither the header area that is written, nor one of the sectors that the code is written to.
pub record IsSpared (room : Room) (header : Header) (area n : ℕ) : Type 0 where
  pub not_header : n ≢ header_sector (1 - area)
  pub not_code : (n < code_sector room.code_layer (free_slot (slot_in header room.code_layer)))
      ⊎ (code_sector room.code_layer (free_slot (slot_in header room.code_layer)) + code_sectors room ≤ n)
      ⊎ (room.code_layer ≡ 0)
