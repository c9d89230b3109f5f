-- A flash in segments that is written from scratch, for a device with these codes, this log and no pending work. Which
-- bytes does the factory write?
use Rattle.std.specs.Prelude.{ℕ, ◌*◌, ◌-◌, ◌≤◌, List, [], ◌∷◌, ◌++◌, length, All, IfSome, Option, None, Some}
use Rattle.mb_model.specs.declared.limits.TheConstants.{SECTOR_LENGTH, CODE_LIMIT, ENTRY_LIMIT}
use Rattle.mb_model.specs.declared.entry.SignedEntry.{SignedEntry}
use Rattle.mb_model.specs.declared.state.Codes.{Codes}
use Rattle.mb_model.specs.declared.stored.Slot.{Slot}
use Rattle.mb_model.specs.declared.stored.Header.{Header}
use Rattle.mb_model.specs.outside.Board.{erased_bytes}
use Rattle.mb_model.specs.records.EntryFormat.{entry_format, signed_entry_format}
use Rattle.mb_model.specs.records.HeaderFormat.{header_format, log_format}

-- bytes at the start of `count` sectors, and erased bytes after them
unfoldable pub in_sectors : ℕ → List ℕ → List ℕ
in_sectors count bytes = bytes ++ erased_bytes (SECTOR_LENGTH * count - length bytes)

-- ---- code

-- a layer's code stands in its slot 1
abbrev pub first_slot : Option (List ℕ) → Slot
first_slot None = record { which = 0; length = 0 }
first_slot (Some code) = record { which = 1; length = length code }

-- both slots of a layer: its code at the start of slot 1, and slot 2 erased
unfoldable pub slots_with : Option (List ℕ) → List ℕ
slots_with None = in_sectors 16 []
slots_with (Some code) = in_sectors 16 code

-- ---- the log

-- the bytes that the sector of an entry begins with
abbrev pub entry_in_log : SignedEntry → List ℕ
entry_in_log signed = log_format.spelling (entry_format.spelling signed.entry, signed.signature)

-- the sectors of a log, one for each entry
unfoldable pub sectors_of : List SignedEntry → List ℕ
sectors_of [] = []
sectors_of (signed ∷ log) = in_sectors 1 (entry_in_log signed) ++ sectors_of log

-- ---- the flash

-- every code is in slot 1, and every entry is signed
abbrev pub first_header : Codes → List SignedEntry → Header
first_header codes log = record {
  one = first_slot codes.one;
  two = first_slot codes.two;
  three = first_slot codes.three;
  signed = length log;
  first = None;
  second = None;
}

-- The header in area 0; the slots of layers 1, 2 and 3; the log; and all else erased.
unfoldable pub written_flash : Codes → List SignedEntry → List ℕ
written_flash codes log =
    in_sectors 2 (header_format.spelling (first_header codes log))  -- sectors 0 and 1
    ++ (slots_with codes.one ++ (slots_with codes.two ++ (slots_with codes.three  -- 2 to 49
    ++ (in_sectors 14 []  -- 50 to 63
    ++ (in_sectors 128 (sectors_of log)  -- 64 to 191
    ++ in_sectors 64 [])))))  -- 192 to 255

-- ---- what can be written

-- each code fits its slot
pub record CodesFitSlots (codes : Codes) : Type 0 where
  pub one : IfSome codes.one (λ code. length code ≤ CODE_LIMIT)
  pub two : IfSome codes.two (λ code. length code ≤ CODE_LIMIT)
  pub three : IfSome codes.three (λ code. length code ≤ CODE_LIMIT)

-- a log of 1 to 128 entries that have spellings
pub record LogFitsSectors (log : List SignedEntry) : Type 0 where
  pub some : 1 ≤ length log
  pub few : length log ≤ ENTRY_LIMIT
  pub allowed : All signed_entry_format.Allowed log
