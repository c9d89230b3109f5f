-- The world outside: what a host shows of its files and of what it printed, and how each of its calls changes that.
use Rattle.mb_model.specs.declared.limits.TheConstants.{FILE_LIMIT}
use Rattle.std.specs.Prelude.{◌≡◌, ◌≢◌, ℕ, ◌+◌, ◌-◌, ◌^◌, ◌<◌, ◌≤◌, ◌⊎◌, nat_lt, List, ◌++◌, length, take, Option, None}
use Rattle.std.specs.Prelude.{Some, if◌then◌else◌}

-- A host may show its files by name, and the bytes that were printed. It counts failed reads, reads of names that are
-- not there, and failed writes and prints. It counts its calls of each kind too, failed or not.
pub record Outside : Type 0 where
  pub files : Option (List ℕ → Option (List ℕ))
  pub printed : Option (List ℕ)
  pub read_faults : ℕ
  pub absences : ℕ
  pub write_faults : ℕ
  pub reads : ℕ
  pub writes : ℕ
  pub prints : ℕ

-- the highest value of a count, which is a u64
abbrev pub count_limit : ℕ
count_limit = 2 ^ 64 - 1

-- a count raised by one; it saturates
unfoldable pub count_after_call : ℕ → ℕ
count_after_call count = if nat_lt count count_limit then count + 1 else count

-- a count has risen; a saturated one counts as risen
abbrev pub HasRisen : ℕ → ℕ → Type 0
HasRisen before after = (before < after) ⊎ (count_limit ≤ after)

-- ---- files and printing

-- if the host shows its files, the file of this name holds these bytes
abbrev pub HoldsFile : Outside → List ℕ → List ℕ → Type 0
HoldsFile outside name bytes =
    (files : List ℕ → Option (List ℕ)) → outside.files ≡ Some files → files name ≡ Some bytes

-- if the host shows its files, none has this name
abbrev pub HasNoFile : Outside → List ℕ → Type 0
HasNoFile outside name = (files : List ℕ → Option (List ℕ)) → outside.files ≡ Some files → files name ≡ None

-- if the host shows its files, the file of this name is longer than an input may be
abbrev pub HoldsTooMuch : Outside → List ℕ → Type 0
HoldsTooMuch outside name =
    (files : List ℕ → Option (List ℕ)) → outside.files ≡ Some files
    → (bytes : List ℕ) × (files name ≡ Some bytes) × (FILE_LIMIT < length bytes)

-- if the host showed its files, it still shows them, and all but the file of this name are as they were
abbrev pub OtherFilesStay : Outside → Outside → List ℕ → Type 0
OtherFilesStay before after name =
    (files : List ℕ → Option (List ℕ)) → before.files ≡ Some files
    → (now : List ℕ → Option (List ℕ)) × (after.files ≡ Some now)
    × ((other : List ℕ) → other ≢ name → now other ≡ files other)

-- if the host showed what was printed, it still does, and these bytes have been added
abbrev pub Adds : Outside → Outside → List ℕ → Type 0
Adds before after bytes = (shown : List ℕ) → before.printed ≡ Some shown → after.printed ≡ Some (shown ++ bytes)

-- ---- a read

-- what is outside after a read that did not fail: the call is counted, and nothing else has changed
abbrev pub read_once : Outside → Outside
read_once before = record before { reads = count_after_call before.reads }

-- A read of this name failed. It counts as a fault, or the host has no such file and counts an absence.
pub data FailsToRead (name : List ℕ) (before after : Outside) : Type 0 where
  by_fault : after ≡ record (read_once before) { read_faults = count_after_call before.read_faults }
      → FailsToRead name before after
  by_absence : HasNoFile before name → after ≡ record (read_once before) { absences = count_after_call before.absences }
      → FailsToRead name before after

-- ---- a write

-- these bytes were written as the whole file of this name
pub record WritesFile (name bytes : List ℕ) (before after : Outside) : Type 0 where
  pub stays : after ≡ record before { files = after.files; writes = count_after_call before.writes }
  pub others : OtherFilesStay before after name
  pub holds : HoldsFile after name bytes

-- the file of this name could not be written, and what it holds now is not known
pub record FailsToWrite (name : List ℕ) (before after : Outside) : Type 0 where
  pub stays : after ≡ record before {
    files = after.files;
    writes = count_after_call before.writes;
    write_faults = count_after_call before.write_faults;
  }
  pub others : OtherFilesStay before after name

-- ---- a print

-- these bytes were printed
pub record Prints (bytes : List ℕ) (before after : Outside) : Type 0 where
  pub stays : after ≡ record before { printed = after.printed; prints = count_after_call before.prints }
  pub adds : Adds before after bytes

-- The call that prints the bytes failed. A prefix of them was printed, which may be empty or all of them.
pub record FailsToPrint (bytes : List ℕ) (before after : Outside) : Type 0 where
  pub stays : after ≡ record before {
    printed = after.printed;
    prints = count_after_call before.prints;
    write_faults = count_after_call before.write_faults;
  }
  pub part : ℕ
  pub adds : Adds before after (take part bytes)
