-- What the calls of this crate promise, where that is longer than a line.
use Rattle.std.specs.Prelude.{◌≡◌, ℕ, ◌*◌, List, length, Result, OnOk}
use Rattle.mb_model.specs.declared.limits.TheConstants.{SECTOR_LENGTH}
use Rattle.mb_model.specs.outside.Pieces.{part}
use Rattle.mb_board.specs.Calls.{Seen, RanOnFlash}
use Rattle.mb_slot.specs.Slots.{IsSameOutside, WritesNothing}

-- `write_sector`, `write_sectors`: so many sectors, from this one on, begin with these bytes
pub record WritesSectors (first count : ℕ) (bytes : List ℕ) {A E : Type 0} (result : Result A E) (before after : Seen)
    : Type 0 where
  pub written : OnOk result (part (SECTOR_LENGTH * first) (length bytes) after.memory.flash ≡ bytes)
  pub idle : part (SECTOR_LENGTH * first) (length bytes) before.memory.flash ≡ bytes
      → WritesNothing result before after
  pub same : IsSameOutside
      (SECTOR_LENGTH * first)
      (SECTOR_LENGTH * count)
      before.memory.flash
      after.memory.flash
  pub ran : RanOnFlash (2 * count) result before after
