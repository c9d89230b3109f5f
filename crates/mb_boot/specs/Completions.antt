-- The sectors of the log that unsigned entries get, and the header that counts them. Do they hold the log that the
-- unsigned entries meant?
use Rattle.std.specs.Prelude.{◌≡◌, ℕ, ◌+◌, ◌==◌, ◌≤◌, List, length, Option, None, Some, if◌then◌else◌}
use Rattle.mb_format.specs.Format.{Spells}
use Rattle.mb_model.specs.declared.limits.TheConstants.{SECTOR_LENGTH}
use Rattle.mb_model.specs.declared.entry.Entry.{Entry}
use Rattle.mb_model.specs.declared.stored.Header.{Header}
use Rattle.mb_model.specs.declared.stored.Root.{Root}
use Rattle.mb_model.specs.declared.stored.Signer.{Signer}
use Rattle.mb_model.specs.records.EntryFormat.{entry_format}
use Rattle.mb_model.specs.records.HeaderFormat.{header_format}
use Rattle.mb_model.specs.memories.Sectors.{BeginsAs}
use Rattle.mb_model.specs.machine.OrderEffects.{entry_signed_by}
use Rattle.mb_model.specs.memories.StoredLog.{signer_of}
use Rattle.mb_model_lemmas.specs.SegmentLaws.{SpellsLog}

-- ---- headers

-- a sector that begins with some header
pub record BeginsWithHeader (bytes : List ℕ) : Type 0 where
  pub header : Header
  pub begins : BeginsAs header_format bytes header
  pub short : length bytes ≤ SECTOR_LENGTH

-- the unsigned entry at a place of a header, 0 or 1
abbrev pub text_at_place : Header → ℕ → Option (List ℕ)
text_at_place header place = if place == 0 then header.first else header.second

-- 1 if there is an entry, 0 if there is none
abbrev pub count_of : Option (List ℕ) → ℕ
count_of None = 0
count_of (Some text) = 1

-- how many unsigned entries a header has
abbrev pub unsigned_count : Header → ℕ
unsigned_count header = count_of header.first + count_of header.second

-- ---- signatures

-- These bytes are what the sector of the log holds of the entry with this text, signed by the key at the index, and a
-- sector has room for them.
pub record IsSignedSector (signer : Signer) (text bytes : List ℕ) : Type 0 where
  pub spelled : (entry : Entry) → Spells entry_format text entry
      → SpellsLog bytes (entry_signed_by signer.key signer.index entry)
  pub some : 1 ≤ length bytes
  pub short : length bytes ≤ SECTOR_LENGTH

-- if there is a text, its position in the log was returned, and these bytes are what its sector holds
abbrev pub SignsText : Signer → Option (List ℕ) → ℕ → Option ℕ → List ℕ → Type 0
SignsText signer None expected None bytes = Unit {0}
SignsText signer None expected (Some position) bytes = ⊥
SignsText signer (Some text) expected None bytes = ⊥
SignsText signer (Some text) expected (Some position) bytes = (position ≡ expected) × IsSignedSector signer text bytes

-- `SignsText` holds of the text at a place of the header that a sector begins with
abbrev pub SignsTextAt : Root → ℕ → List ℕ → Option ℕ → List ℕ → Type 0
SignsTextAt root place sector position bytes =
    (header : Header) → BeginsAs header_format sector header
    → SignsText (signer_of root place) (text_at_place header place) (header.signed + place) position bytes
