-- What a flash in segments holds: the code of each layer, the signed entries of the log, and those not signed yet.
-- Which part of a device may anyone read?
use Rattle.std.specs.Prelude.{◌≡◌, ◌≢◌, ℕ, ◌*◌, List, [], ◌∷◌, ◌++◌, length, take, Option, None, Some}
use Rattle.mb_format.specs.Format.{Spells}
use Rattle.mb_model.specs.declared.limits.TheConstants.{SECTOR_LENGTH, CODE_LIMIT}
use Rattle.mb_model.specs.declared.entry.Entry.{Entry}
use Rattle.mb_model.specs.declared.entry.SignedEntry.{SignedEntry}
use Rattle.mb_model.specs.declared.state.Codes.{Codes}
use Rattle.mb_model.specs.declared.stored.Root.{Root}
use Rattle.mb_model.specs.declared.stored.Slot.{Slot}
use Rattle.mb_model.specs.declared.stored.Header.{Header}
use Rattle.mb_model.specs.outside.Pieces.{part}
use Rattle.mb_model.specs.records.EntryFormat.{entry_format}
use Rattle.mb_model.specs.records.HeaderFormat.{header_format, log_format}
use Rattle.mb_model.specs.memories.Sectors.{header_sector, code_sector, log_sector, BeginsAs}
use Rattle.mb_model.specs.memories.StoredLog.{AreCounted}

-- ---- sectors and code slots

-- a sector of the flash, by its number
unfoldable pub sector : List ℕ → ℕ → List ℕ
sector flash number = part (SECTOR_LENGTH * number) SECTOR_LENGTH flash

-- a code slot of a layer: all of its eight sectors
unfoldable pub code_slot : List ℕ → ℕ → ℕ → List ℕ
code_slot flash layer slot = part (SECTOR_LENGTH * code_sector layer slot) CODE_LIMIT flash

-- ---- what each place holds

-- The header area, 0 or 1, begins with this header.
abbrev pub HoldsHeader : List ℕ → ℕ → Header → Type 0
HoldsHeader flash area header = BeginsAs header_format (sector flash (header_sector area)) header

-- The layer has code exactly if a slot is named for it. The code is the prefix of that slot of the length named.
abbrev pub HoldsCode : List ℕ → ℕ → Slot → Option (List ℕ) → Type 0
HoldsCode flash layer slot None = slot.which ≡ 0
HoldsCode flash layer slot (Some code) =
    (slot.which ≢ 0) × (code ≡ take slot.length (code_slot flash layer slot.which))

-- A sector of the log begins with the text of this entry, and then its signature.
pub record HoldsEntry (bytes : List ℕ) (signed : SignedEntry) : Type 0 where
  pub text : List ℕ
  pub begins : BeginsAs log_format bytes (text, signed.signature)
  pub spelled : Spells entry_format text signed.entry

-- Each entry of a log stands in the sector of its position.
pub record HoldsLog (flash : List ℕ) (log : List SignedEntry) : Type 0 where
  pub each : (before : List SignedEntry) (signed : SignedEntry) (rest : List SignedEntry)
      → log ≡ before ++ signed ∷ rest → HoldsEntry (sector flash (log_sector (length before))) signed

-- The unsigned texts of a header, none to two, spell these entries.
abbrev pub AreBytesOf : Option (List ℕ) → Option (List ℕ) → List Entry → Type 0
AreBytesOf None None [] = Unit {0}
AreBytesOf (Some first) None (entry ∷ []) = Spells entry_format first entry
AreBytesOf (Some first) (Some second) (entry ∷ next ∷ []) =
    Spells entry_format first entry × Spells entry_format second next
AreBytesOf first second entries = ⊥

-- ---- what all of it holds

-- The flash holds these codes and entries, by the header of the area that the root record names: its slots hold the
-- codes, the log's sectors below its count hold the signed entries, and its texts spell the unsigned ones, as many as
-- the root record says.
pub record HoldsPublic
    (flash : List ℕ) (root : Root) (codes : Codes) (signed : List SignedEntry) (unsigned : List Entry) : Type 0 where
  pub header : Header
  pub begins : HoldsHeader flash root.area header
  pub one : HoldsCode flash 1 header.one codes.one
  pub two : HoldsCode flash 2 header.two codes.two
  pub three : HoldsCode flash 3 header.three codes.three
  pub count : length signed ≡ header.signed
  pub log : HoldsLog flash signed
  pub unsigned_are : AreBytesOf header.first header.second unsigned
  pub counted : AreCounted root.pending unsigned
