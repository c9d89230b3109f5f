-- What holds of the fields of a memory: a sector without a write since the bytes were kept is as it was.
use Rattle.std.specs.Prelude.{◌≡◌, ℕ, ◌*◌, ◌<◌, Bool, false, List, length, get_or}
use Rattle.mb_model.specs.declared.limits.TheConstants.{SECTOR_LENGTH}
use Rattle.mb_model.specs.outside.Pieces.{part}
use Rattle.mb_board.specs.declared.bank.Bank.TheInside.{Inside}

abbrev pub sector_of : ℕ → List ℕ → List ℕ
sector_of sector bytes = part (SECTOR_LENGTH * sector) SECTOR_LENGTH bytes

-- two memories of whole sectors are the same in those that did not change
pub record IsSameUnchanged (changed : List Bool) (standing bytes : List ℕ) : Type 0 where
  pub whole : length bytes ≡ SECTOR_LENGTH * length changed
  pub sized : length standing ≡ length bytes
  pub same : (sector : ℕ) → sector < length changed → get_or changed sector false ≡ false
      → sector_of sector standing ≡ sector_of sector bytes

abbrev pub KeepsStanding : Inside → Type 0
KeepsStanding bank = IsSameUnchanged bank.changed.items bank.standing.items bank.bytes.items
