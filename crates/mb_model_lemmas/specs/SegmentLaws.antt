-- Laws of a flash in segments. Does it hold one list of codes and one log, and does a flash that is written from
-- nothing hold what was written?
use Rattle.std.specs.Prelude.{◌≡◌, ◌<◌, ◌≤◌, ◌+◌, ℕ, List, [], length, take, All, Option, None, Some}
use Rattle.mb_format.specs.Format.{IsBytes, Spells}
use Rattle.mb_model.specs.declared.limits.TheConstants.{SECTOR_LENGTH, CODE_LIMIT, ENTRY_LIMIT, FLASH_LENGTH}
use Rattle.mb_model.specs.declared.entry.Entry.{Entry}
use Rattle.mb_model.specs.declared.entry.SignedEntry.{SignedEntry}
use Rattle.mb_model.specs.declared.state.Codes.{Codes}
use Rattle.mb_model.specs.declared.stored.Root.{Root}
use Rattle.mb_model.specs.declared.stored.Slot.{Slot}
use Rattle.mb_model.specs.declared.stored.Header.{Header}
use Rattle.mb_model.specs.records.EntryFormat.{entry_format, signed_entry_format}
use Rattle.mb_model.specs.records.HeaderFormat.{log_format}
use Rattle.mb_model.specs.memories.Sectors.{log_sector}
use Rattle.mb_model.specs.memories.Flash.{sector, HoldsHeader, HoldsCode, HoldsEntry, HoldsLog, AreBytesOf, HoldsPublic}
use Rattle.mb_model.specs.memories.WrittenFlash.{entry_in_log, written_flash, CodesFitSlots, LogFitsSectors}
use Rattle.mb_model_lemmas.specs.FormLaws.{HoldsOnePublic}

-- ---- one value

-- a header area of a flash of bytes holds one header
abbrev pub AreasHoldOneHeader : Type 0
AreasHoldOneHeader =
    (flash : List ℕ) (area : ℕ) (header other : Header) → IsBytes flash → HoldsHeader flash area header
    → HoldsHeader flash area other → header ≡ other

-- an area holds this header and no other
abbrev pub IsOnlyHeader : List ℕ → ℕ → Header → Type 0
IsOnlyHeader flash area header = (any : Header) → HoldsHeader flash area any → any ≡ header

-- for a root, a flash of bytes holds one list of codes and one list of entries, signed and unsigned
abbrev pub SegmentsHoldOne : Type 0
SegmentsHoldOne = HoldsOnePublic HoldsPublic

-- this sector of the log holds no entry
abbrev pub HoldsNoEntry : List ℕ → ℕ → Type 0
HoldsNoEntry flash position = (signed : SignedEntry) → HoldsEntry (sector flash (log_sector position)) signed → ⊥

-- If the only header of an area counts a sector of the log that holds no entry, the flash holds nothing for a root
-- that names this area.
abbrev pub BadLogSectorsHoldNothing : Type 0
BadLogSectorsHoldNothing =
    (flash : List ℕ) (root : Root) (header : Header) (position : ℕ) → IsOnlyHeader flash root.area header
    → position < header.signed → HoldsNoEntry flash position
    → (codes : Codes) (signed : List SignedEntry) (unsigned : List Entry)
    → HoldsPublic flash root codes signed unsigned → ⊥

-- ---- what a flash holds has a spelling

-- the numbers of a header name slots that exist, and a log that there can be
pub record IsSmallHeader (header : Header) : Type 0 where
  pub one : header.one.which ≤ 2
  pub two : header.two.which ≤ 2
  pub three : header.three.which ≤ 2
  pub least : 1 ≤ header.signed
  pub most : header.signed ≤ ENTRY_LIMIT

-- the numbers of each header in an area name slots that exist, and a log that there can be
abbrev pub HeldHeadersAreSmall : Type 0
HeldHeadersAreSmall =
    (flash : List ℕ) (area : ℕ) (header : Header) → HoldsHeader flash area header → IsSmallHeader header

-- each entry of a log in its sectors has a spelling
abbrev pub HeldLogsAreAllowed : Type 0
HeldLogsAreAllowed =
    (flash : List ℕ) (log : List SignedEntry) → HoldsLog flash log → All signed_entry_format.Allowed log

-- each entry that the texts of a header spell is allowed
abbrev pub HeldTextsAreAllowed : Type 0
HeldTextsAreAllowed =
    (first second : Option (List ℕ)) (unsigned : List Entry) → AreBytesOf first second unsigned
    → All entry_format.Allowed unsigned

-- code in a slot fits it
abbrev pub HeldCodesAreShort : Type 0
HeldCodesAreShort =
    (flash : List ℕ) (layer : ℕ) (slot : Slot) (code : List ℕ) → HoldsCode flash layer slot (Some code)
    → length code ≤ CODE_LIMIT

-- What a flash holds for a root fits a flash: its codes and its log do, the unsigned entries have spellings, and the
-- log has room for them.
pub record SegmentsFit (codes : Codes) (signed : List SignedEntry) (unsigned : List Entry) : Type 0 where
  pub codes_fit : CodesFitSlots codes
  pub log_fits : LogFitsSectors signed
  pub unsigned_allowed : All entry_format.Allowed unsigned
  pub together : length signed + length unsigned ≤ ENTRY_LIMIT

abbrev pub HeldSegmentsFit : Type 0
HeldSegmentsFit =
    (flash : List ℕ) (root : Root) (codes : Codes) (signed : List SignedEntry) (unsigned : List Entry)
    → HoldsPublic flash root codes signed unsigned → SegmentsFit codes signed unsigned

-- ---- what is written is held

-- These bytes are the text of an entry, and the signature of that entry, as a sector of the log begins with them.
pub record SpellsLog (bytes : List ℕ) (signed : SignedEntry) : Type 0 where
  pub text : List ℕ
  pub whole : Spells log_format bytes (text, signed.signature)
  pub entry : Spells entry_format text signed.entry

-- bytes that begin with an entry's text and signature hold the entry
abbrev pub WrittenEntriesAreHeld : Type 0
WrittenEntriesAreHeld =
    (bytes front : List ℕ) (signed : SignedEntry) → SpellsLog front signed → take (length front) bytes ≡ front
    → HoldsEntry bytes signed

-- each entry of a log that has a spelling has bytes for its sector
abbrev pub EntriesFitTheirSectors : Type 0
EntriesFitTheirSectors =
    (signed : SignedEntry) → signed_entry_format.Allowed signed
    → SpellsLog (entry_in_log signed) signed × (length (entry_in_log signed) ≤ SECTOR_LENGTH)

-- ---- a flash that is written from nothing

-- what fits a flash is written to one that is as long as a flash
abbrev pub WrittenFlashIsWhole : Type 0
WrittenFlashIsWhole =
    (codes : Codes) (log : List SignedEntry) → CodesFitSlots codes → LogFitsSectors log
    → length (written_flash codes log) ≡ FLASH_LENGTH

-- a flash that is written from nothing holds its codes and its log for a root that names area 0 and has no pending work
abbrev pub WrittenFlashHolds : Type 0
WrittenFlashHolds =
    (codes : Codes) (log : List SignedEntry) → CodesFitSlots codes → LogFitsSectors log
    → (root : Root) → root.area ≡ 0 → root.pending ≡ None
    → HoldsPublic (written_flash codes log) root codes log []
