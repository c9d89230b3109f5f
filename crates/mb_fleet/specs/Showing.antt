-- What a register answers to a chain that it is shown, and its rows afterwards. Is another past of a device caught?
use Rattle.std.specs.Prelude.{◌≡◌, ◌≢◌, ℕ, ◌<◌, ◌≤◌, List, [], ◌∷◌, ◌++◌, length, take, slice_get}
use Rattle.std.specs.List.{AllByRecursion}
use Rattle.mb_format.specs.Format.{Spells}
use Rattle.mb_model.specs.declared.key.PublicKey.{PublicKey}
use Rattle.mb_model.specs.declared.entry.Chain.{Chain}
use Rattle.mb_model.specs.owners.Log.{entries_of}
use Rattle.mb_model.specs.records.ChainFormat.{chain_format}
use Rattle.mb_model.specs.chains.Acceptance.{ChainRefusal, AreGood}
use Rattle.mb_verifier.specs.Entries.{IsEntriesRefused}
use Rattle.mb_fleet.specs.declared.limits.TheConstants.{DEVICE_LIMIT}
use Rattle.mb_fleet.specs.declared.row.Row.{Row}
use Rattle.mb_fleet.specs.Order.{IsBefore}
use Rattle.mb_fleet.specs.Rows.{IsRowOf}

-- what a register answers to a chain
pub data Answer : Type 0 where
  -- the device with this serial is new, and has shown this many entries
  newly_added : List ℕ → ℕ → Answer
  -- the device has shown exactly these entries before, this many
  same : List ℕ → ℕ → Answer
  -- the device has shown a proper prefix of these entries; the entries are this many
  extended : List ℕ → ℕ → Answer
  -- the verifier refuses the chain
  chain_refused : ChainRefusal → Answer
  -- the device has shown these entries and more, this many in all
  older : List ℕ → ℕ → Answer
  -- the device has shown another past: the first entries that differ have this index, from 0
  forked : List ℕ → ℕ → Answer
  -- the device is new, and the register is full
  full : Answer

-- ---- a row meets the rows that are there

-- no row has this serial
abbrev pub IsNewDevice : List Row → Row → Type 0
IsNewDevice rows row = AllByRecursion (λ other. other.serial ≢ row.serial) rows

-- the row stands in its place: the serials of the rows before it are lower, and those of the rows after it higher
pub record StandsBetween (before later : List Row) (row : Row) : Type 0 where
  pub below : AllByRecursion (λ other. IsBefore other.serial row.serial) before
  pub above : AllByRecursion (λ other. IsBefore row.serial other.serial) later

-- the rows have one of the same device, with these rows before it and these after it
pub record HasOld (rows : List Row) (row : Row) (before : List Row) (old : Row) (later : List Row) : Type 0 where
  pub split : rows ≡ before ++ old ∷ later
  pub serial : old.serial ≡ row.serial

-- the first list is a proper prefix of the second
pub record IsShorter (short long : List (List ℕ)) : Type 0 where
  pub more : List (List ℕ)
  pub some : more ≢ []
  pub whole : long ≡ short ++ more

-- two lists, each longer than this, differ first at this index
pub record DifferAt (a b : List (List ℕ)) (place : ℕ) : Type 0 where
  pub equal : take place a ≡ take place b
  pub in_a : place < length a
  pub in_b : place < length b
  pub differ : slice_get a place ≢ slice_get b place

-- A row meets the rows of a register: the answer, and the rows afterwards.
pub data Meets (rows : List Row) (row : Row) (answer : Answer) (after : List Row) : Type 0 where
  is_added : IsNewDevice rows row → length rows < DEVICE_LIMIT
      → (before later : List Row) → rows ≡ before ++ later → StandsBetween before later row
      → after ≡ before ++ row ∷ later
      → answer ≡ newly_added row.serial (length row.hashes) → Meets rows row answer after
  is_full : IsNewDevice rows row → DEVICE_LIMIT ≤ length rows → after ≡ rows → answer ≡ full
      → Meets rows row answer after
  is_same : (before : List Row) (old : Row) (later : List Row) → HasOld rows row before old later
      → row.hashes ≡ old.hashes → after ≡ rows
      → answer ≡ same row.serial (length row.hashes) → Meets rows row answer after
  is_extended : (before : List Row) (old : Row) (later : List Row) → HasOld rows row before old later
      → IsShorter old.hashes row.hashes → after ≡ before ++ row ∷ later
      → answer ≡ extended row.serial (length row.hashes) → Meets rows row answer after
  is_older : (before : List Row) (old : Row) (later : List Row) → HasOld rows row before old later
      → IsShorter row.hashes old.hashes → after ≡ rows
      → answer ≡ older row.serial (length old.hashes) → Meets rows row answer after
  is_forked : (before : List Row) (old : Row) (later : List Row) → HasOld rows row before old later
      → (place : ℕ) → DifferAt old.hashes row.hashes place → after ≡ rows
      → answer ≡ forked row.serial place → Meets rows row answer after

-- ---- a chain

-- the entries of a chain are good under the maker's key, and this is their row; of a statement only the form counts
pub record IsShown (maker : PublicKey) (bytes : List ℕ) (row : Row) : Type 0 where
  pub chain : Chain
  pub spelled : Spells chain_format bytes chain
  pub good : AreGood maker chain.entries
  pub row_is : IsRowOf (entries_of chain.entries) row

-- a chain is shown to a register with these rows: the answer, and the rows afterwards
pub data IsChainAnswered (maker : PublicKey) (rows : List Row) (bytes : List ℕ) (answer : Answer)
    (after : List Row) : Type 0 where
  is_chain_refused : (why : ChainRefusal) → IsEntriesRefused maker bytes why → after ≡ rows → answer ≡ chain_refused why
      → IsChainAnswered maker rows bytes answer after
  is_shown : (row : Row) → IsShown maker bytes row → Meets rows row answer after
      → IsChainAnswered maker rows bytes answer after
