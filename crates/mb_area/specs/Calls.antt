-- What the calls of this crate promise, where that is longer than a line.
use Rattle.std.specs.Prelude.{◌≡◌, ℕ, ◌+◌, ◌*◌, ◌<◌, ◌⊎◌, List, length, Result, OnOk, IfOk}
use Rattle.mb_model.specs.declared.limits.TheConstants.{SECTOR_COUNT}
use Rattle.mb_model.specs.declared.stored.Header.{Header}
use Rattle.mb_model.specs.declared.stored.Root.{Root}
use Rattle.mb_model.specs.records.RootFormat.{root_format}
use Rattle.mb_model.specs.memories.Memory.{IsBlank, area_of_slot, inactive_area_of_slot, HoldsRecord}
use Rattle.mb_model.specs.memories.Flash.{sector, code_slot, HoldsHeader}
use Rattle.mb_model.specs.memories.Sectors.{code_sector, log_sector}
use Rattle.mb_model.specs.memories.Meaning.{RootIn}
use Rattle.mb_model_memory.specs.FlashInForce.{slot_in, AgreeForArea, BeginsWithBytes}
use Rattle.mb_model_memory.specs.FlashInForce.{DiffersOnlyIn, IsSectorWritten}
use Rattle.mb_model_memory.specs.Holding.{KeepsContents}
use Rattle.mb_model_memory.specs.InForce.{AgreeBesides}
use Rattle.mb_model_memory.specs.NextHeaders.{free_slot, IsCodeWritten}
use Rattle.mb_board.specs.Calls.{Seen, IsPowered, RanOnFlash}
use Rattle.mb_slot.specs.Slots.{WritesNothing, RanInOther, RanInSlot}
use Rattle.mb_flash.specs.Sectors.{sectors_for}
use Rattle.mb_layout.specs.declared.room.Room.{Room}
use Rattle.mb_layout.specs.Plans.{SamePlans}
use Rattle.mb_area.specs.declared.state.Unsettled.{Unsettled}
use Rattle.mb_area.specs.Flashes.{IsCurrentArea, IsPlan, IsPublicWritten, IsCodeThere, IsPublicThere, IsSpared}
use Rattle.mb_area.specs.Flashes.{code_to_write, code_sectors}
use Rattle.mb_area.specs.Roots.{HasSomeRoot, IsOnlyRoot, CommitsRoot, MeansByRoot, KeepsOrMeansByRoot}
use Rattle.mb_area.specs.Roots.{Finishes, KeepsOrFinishes, MeansAsReady}

-- ---- one sector, and one slot

-- `store_sector`: sector n begins with these bytes
pub record StoresSector (n : ℕ) (bytes : List ℕ) {A E : Type 0} (result : Result A E) (before after : Seen)
    : Type 0 where
  pub same : DiffersOnlyIn n 1 before.memory.flash after.memory.flash
  pub written : OnOk result (IsSectorWritten n bytes before.memory.flash after.memory.flash)
  pub idle : BeginsWithBytes (sector before.memory.flash n) bytes → WritesNothing result before after
  pub ran : RanOnFlash 2 result before after

-- `store_code`: a slot of a layer begins with this code
pub record StoresCode (layer slot : ℕ) (code : List ℕ) {A E : Type 0} (result : Result A E) (before after : Seen)
    : Type 0 where
  pub same : DiffersOnlyIn
      (code_sector layer slot)
      (sectors_for (length code))
      before.memory.flash
      after.memory.flash
  pub written : OnOk result (BeginsWithBytes (code_slot after.memory.flash layer slot) code)
  pub idle : BeginsWithBytes (code_slot before.memory.flash layer slot) code → WritesNothing result before after
  pub ran : RanOnFlash (2 * sectors_for (length code)) result before after

-- ---- code and header

-- what `write_code` and `write_both` need: power, the current header area, and a plan that fits
pub record CanWritePublic (area : ℕ) (room : Room) (before : Seen) : Type 0 where
  pub powered : IsPowered before
  pub current : IsCurrentArea before.memory area
  pub plan : IsPlan room

-- what `write_code` does, by the header of the current area
pub record WritesCodeBeside (current : Header) (room : Room) {A E : Type 0} (result : Result A E) (before after : Seen)
    : Type 0 where
  pub same : DiffersOnlyIn
      (code_sector room.code_layer (free_slot (slot_in current room.code_layer)))
      (code_sectors room)
      before.memory.flash
      after.memory.flash
  pub written : OnOk
      result
      (IsCodeWritten
      room.code_layer
      (slot_in current room.code_layer)
      (code_to_write room)
      before.memory.flash
      after.memory.flash)
  pub idle : IsCodeThere room current before.memory.flash → WritesNothing result before after

-- `write_code`: the code of the room, if it has any, is in the slot that the current header does not name
pub record WritesCode (area : ℕ) (room room_after : Room) {A E : Type 0} (result : Result A E) (before after : Seen)
    : Type 0 where
  pub agree : AgreeForArea before.memory.flash after.memory.flash area
  pub code : (header : Header) → HoldsHeader before.memory.flash area header
      → WritesCodeBeside header room result before after
  pub ran : RanOnFlash (2 * code_sectors room) result before after
  pub plans : SamePlans room room_after

-- what `write_both` and `write_public` do, by the header of the current area
pub record WritesPublicBeside (area : ℕ) (current : Header) (room : Room)
    {A E : Type 0} (result : Result A E) (before after : Seen) : Type 0 where
  pub written : OnOk result (IsPublicWritten room current area before.memory.flash after.memory.flash)
  pub spared : (n : ℕ) → n < SECTOR_COUNT → IsSpared room current area n
      → sector after.memory.flash n ≡ sector before.memory.flash n
  pub idle : IsPublicThere room current area before.memory.flash → WritesNothing result before after

-- `write_both`, `write_public`: code and header of the room are written where the current header does not count them
pub record WritesPublic (area : ℕ) (room room_after : Room) {A E : Type 0} (result : Result A E) (before after : Seen)
    : Type 0 where
  pub contents : KeepsContents before.memory after.memory
  pub agree : AgreeForArea before.memory.flash after.memory.flash area
  pub public : (header : Header) → HoldsHeader before.memory.flash area header
      → WritesPublicBeside area header room result before after
  pub ran : RanOnFlash (2 * code_sectors room + 2) result before after
  pub plans : SamePlans room room_after

-- ---- the log

-- `write_log`: the sector for a position begins with what the room holds for it
pub record WritesLog (position : ℕ) (room room_after : Room) {A E : Type 0} (result : Result A E) (before after : Seen)
    : Type 0 where
  pub contents : KeepsContents before.memory after.memory
  pub agree : (root : Root) → RootIn before.memory.bbram root
      → AgreeForArea before.memory.flash after.memory.flash root.area
  pub same : DiffersOnlyIn (log_sector position) 1 before.memory.flash after.memory.flash
  pub written : OnOk
      result
      (IsSectorWritten (log_sector position) room.log.items before.memory.flash after.memory.flash)
  pub idle : BeginsWithBytes (sector before.memory.flash (log_sector position)) room.log.items
      → WritesNothing result before after
  pub ran : RanOnFlash 2 result before after
  pub plans : SamePlans room room_after

-- ---- the root record

-- `store_root`: this root record is in the root's current area, and the area before is its inactive one
pub record StoresRoot (new_root : Root) (room room_after : Room)
    {A E : Type 0} (result : Result A E) (before after : Seen) : Type 0 where
  pub done : OnOk result (HoldsRecord root_format (area_of_slot after.memory.bbram 1) new_root)
  pub only : OnOk
      result
      ((any : Root) → HoldsRecord root_format (area_of_slot after.memory.bbram 1) any → any ≡ new_root)
  pub either : (area_of_slot after.memory.bbram 1 ≡ area_of_slot before.memory.bbram 1)
      ⊎ HoldsRecord root_format (area_of_slot after.memory.bbram 1) new_root
  pub left : OnOk result (inactive_area_of_slot after.memory.bbram 1 ≡ area_of_slot before.memory.bbram 1)
  pub besides : AgreeBesides 1 before.memory.bbram after.memory.bbram
  pub ran : RanInSlot 2 1 result before after
  pub plans : SamePlans room room_after

-- `commit_root`: the root record that an order leaves is current, and no other
pub record MakesRootCurrent (new_root : Root) (room room_after : Room)
    {E : Type 0} (result : Result Unsettled E) (before after : Seen) : Type 0 where
  pub root : IfOk result (λ unsettled. unsettled.root ≡ new_root)
  pub only : HasSomeRoot before.memory → OnOk result (IsOnlyRoot after.memory.bbram new_root)
  pub done : OnOk result (CommitsRoot new_root before.memory after.memory)
  pub either : KeepsContents before.memory after.memory ⊎ CommitsRoot new_root before.memory after.memory
  pub means : OnOk result (MeansByRoot new_root before.memory after.memory)
  pub means_either : KeepsOrMeansByRoot new_root before.memory after.memory
  pub ran : RanInSlot 2 1 result before after
  pub plans : SamePlans room room_after

-- `finish_root`: a root record with nothing pending is current
pub record FinishesRoot (room room_after : Room) {A E : Type 0} (result : Result A E) (before after : Seen)
    : Type 0 where
  pub done : OnOk result (Finishes before.memory after.memory)
  pub either : KeepsOrFinishes before.memory after.memory
  pub means : MeansAsReady before.memory after.memory
  pub ran : RanInSlot 2 1 result before after
  pub plans : SamePlans room room_after

-- `wipe_root`: the root's inactive area is all zero
pub record WipesRoot {A E : Type 0} (result : Result A E) (before after : Seen) : Type 0 where
  pub blank : OnOk result (IsBlank (inactive_area_of_slot after.memory.bbram 1))
  pub contents : KeepsContents before.memory after.memory
  pub idle : IsBlank (inactive_area_of_slot before.memory.bbram 1) → WritesNothing result before after
  pub ran : RanInOther 1 1 result before after
