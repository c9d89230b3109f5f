-- Sectors of the flash that no event changes: those with a signed entry of the log, and those that hold nothing. Can
-- an event overwrite what was signed?
use Rattle.std.specs.Prelude.{◌≡◌, ℕ, ◌<◌, ◌≤◌, ◌⊎◌, List}
use Rattle.mb_model.specs.declared.limits.TheConstants.{SECTOR_COUNT}
use Rattle.mb_model.specs.declared.stored.Root.{Root}
use Rattle.mb_model.specs.declared.stored.Header.{Header}
use Rattle.mb_model.specs.outside.Board.{Memory}
use Rattle.mb_model.specs.memories.Meaning.{RootIn}
use Rattle.mb_model.specs.memories.Sectors.{log_sector}
use Rattle.mb_model.specs.memories.Flash.{sector, HoldsHeader}

-- a sector that holds nothing: it stands between the code slots and the log, or after the log
abbrev pub IsUnused : ℕ → Type 0
IsUnused n = ((50 ≤ n) × (n < 64)) ⊎ ((192 ≤ n) × (n < SECTOR_COUNT))

-- two flashes have the same bytes in the sectors that hold nothing
abbrev pub AgreeInUnused : List ℕ → List ℕ → Type 0
AgreeInUnused flash other = (n : ℕ) → IsUnused n → sector other n ≡ sector flash n

-- The signed log stays: each log sector below the count of the header that the root names holds the same bytes.
pub record KeepsSignedLog (before after : Memory) : Type 0 where
  pub kept : (root : Root) (header : Header) → RootIn before.bbram root → HoldsHeader before.flash root.area header
      → (position : ℕ) → position < header.signed
      → sector after.flash (log_sector position) ≡ sector before.flash (log_sector position)

-- The signed log stays, and so do the sectors that hold nothing.
pub record SparesSectors (before after : Memory) : Type 0 where
  pub log : KeepsSignedLog before after
  pub unused : AgreeInUnused before.flash after.flash
