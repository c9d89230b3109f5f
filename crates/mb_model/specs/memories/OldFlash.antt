-- What stood in the flash of a device before it was divided into segments. What does an old image mean?
use Rattle.std.specs.Prelude.{◌≡◌, ℕ, ◌*◌, ◌≤◌, List, ◌++◌, length, map, Option, None, Some}
use Rattle.std.specs.Int.{w32, to_be_bytes}
use Rattle.mb_format.specs.Format.{Format, Spells}
use Rattle.mb_model.specs.declared.entry.Entry.{Entry}
use Rattle.mb_model.specs.declared.entry.SignedEntry.{SignedEntry}
use Rattle.mb_model.specs.declared.entry.PublicEntry.{PublicEntry}
use Rattle.mb_model.specs.declared.state.Codes.{Codes}
use Rattle.mb_model.specs.declared.state.State.{State}
use Rattle.mb_model.specs.declared.stored.Public.{Public}
use Rattle.mb_model.specs.declared.stored.Root.{Root}
use Rattle.mb_model.specs.memories.PublicRecord.{public_format}
use Rattle.mb_model.specs.outside.Pieces.{part}
use Rattle.mb_model.specs.memories.StoredLog.{AreCounted}
use Rattle.mb_model.specs.memories.Meaning.{IsWellFormedBy}
use Rattle.mb_model.specs.memories.Faults.{Fault, HasFaultBy}

-- ---- where it stands

-- area 0 or 1 of the flash, of 524,288 bytes
unfoldable pub flash_area : List ℕ → ℕ → List ℕ
flash_area flash number = part (524288 * number) 524288 flash

-- an area begins with these bytes, after their length; arbitrary bytes follow
pub record BeginsArea (area bytes : List ℕ) : Type 0 where
  pub rest : List ℕ
  pub short : length bytes ≤ 470000
  pub whole : area ≡ to_be_bytes w32 (length bytes) ++ bytes ++ rest

-- an area begins with a record of this value
pub record BeginsWithRecord {A : Type 0} (format : Format A) (area : List ℕ) (value : A) : Type 0 where
  pub bytes : List ℕ
  pub begins : BeginsArea area bytes
  pub spelled : Spells format bytes value

-- ---- what it holds

-- an entry with its signature, and one that is not signed yet, as they are stored
abbrev pub with_signature : SignedEntry → PublicEntry
with_signature signed = record { entry = signed.entry; signature = Some signed.signature }

abbrev pub without_signature : Entry → PublicEntry
without_signature entry = record { entry = entry; signature = None }

-- the record of these codes and of these entries, the signed ones first
abbrev pub public_of_parts : Codes → List SignedEntry → List Entry → Public
public_of_parts codes signed unsigned =
    record { codes = codes; entries = map with_signature signed ++ map without_signature unsigned }

-- The flash area that the root names holds these codes and entries, and as many of them are unsigned as the root says.
pub record HeldPublic
    (flash : List ℕ) (root : Root) (codes : Codes) (signed : List SignedEntry) (unsigned : List Entry) : Type 0 where
  pub begins : BeginsWithRecord public_format (flash_area flash root.area) (public_of_parts codes signed unsigned)
  pub counted : AreCounted root.pending unsigned

-- ---- what an old image means

-- an image that a device could have, and the state that it meant
abbrev pub WasWellFormed : List ℕ → Option State → Type 0
WasWellFormed image state = IsWellFormedBy HeldPublic image state

-- the old image has this fault, and none that is named before it
abbrev pub HadFault : List ℕ → Fault → Type 0
HadFault image fault = HasFaultBy HeldPublic image fault
