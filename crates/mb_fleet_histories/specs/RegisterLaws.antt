-- Laws of registers that are shown many chains. Is each fork caught, and is no honest device accused?
use Rattle.std.specs.Prelude.{◌≡◌, ◌⊎◌, ℕ, List, ◌++◌, map, All, Contains, Some, [], ◌∷◌, length}
use Rattle.mb_format.specs.Format.{IsBytes, Spells}
use Rattle.mb_model.specs.declared.entry.Chain.{Chain}
use Rattle.mb_model.specs.declared.entry.Entry.{Entry}
use Rattle.mb_model.specs.declared.entry.SignedEntry.{SignedEntry}
use Rattle.mb_model.specs.declared.key.PublicKey.{PublicKey}
use Rattle.mb_model.specs.chains.Acceptance.{AreGood, Honest}
use Rattle.mb_model.specs.records.ChainFormat.{chain_format}
use Rattle.mb_model.specs.records.EntryFormat.{entry_format, entry_hash}
use Rattle.mb_model.specs.owners.Log.{entries_of, serial_of}
use Rattle.mb_model.specs.memories.Valid.{EachFollows}
use Rattle.mb_model_histories.specs.KeyLaws.{Collide}
use Rattle.mb_fleet.specs.declared.item.Item.{Item}
use Rattle.mb_fleet.specs.declared.item.Item.TheVariants.{Show, Find, Codes}
use Rattle.mb_fleet.specs.declared.row.Row.{Row}
use Rattle.mb_fleet.specs.Rows.{IsRowOf, AreOrdered}
use Rattle.mb_fleet.specs.Serving.{FleetRun}
use Rattle.mb_fleet.specs.Showing.{Answer, newly_added, same, extended, chain_refused, older, forked, full}
use Rattle.mb_fleet.specs.Showing.{DifferAt, Meets, IsShown, IsChainAnswered}

-- ---- rows

-- the first list of hashes is a prefix of the second, which may be equal
abbrev pub IsHashPrefix : List (List ℕ) → List (List ℕ) → Type 0
IsHashPrefix short long = (rest : List (List ℕ)) × (long ≡ short ++ rest)

-- one of the two is a prefix of the other
abbrev pub AgreeSoFar : List (List ℕ) → List (List ℕ) → Type 0
AgreeSoFar one other = IsHashPrefix one other ⊎ IsHashPrefix other one

-- the second row is of the same device, which has shown all of the first
abbrev pub GoesOnFrom : Row → Row → Type 0
GoesOnFrom old new = (new.serial ≡ old.serial) × IsHashPrefix old.hashes new.hashes

-- Whatever a register is served, it has a row for each device that it had, with all that the device had shown.
abbrev pub RowsOnlyGrow : Type 0
RowsOnlyGrow =
    (maker : PublicKey) (rows after : List Row) (listed : List Item) (lines : List (List ℕ)) (row : Row)
    → FleetRun maker rows listed lines after → Contains rows row
    → (now : Row) × Contains after now × GoesOnFrom row now

-- The serials of a register ascend, whatever it is served.
abbrev pub RegistersStayOrdered : Type 0
RegistersStayOrdered =
    (maker : PublicKey) (rows after : List Row) (listed : List Item) (lines : List (List ℕ))
    → FleetRun maker rows listed lines after → AreOrdered rows → AreOrdered after

-- A register whose serials do not ascend may stay so: one with a row twice, if it is served nothing.
abbrev pub DoubledRowsStay : Type 0
DoubledRowsStay =
    (maker : PublicKey) (row : Row)
    → FleetRun maker (row ∷ row ∷ []) [] [] (row ∷ row ∷ []) × (AreOrdered (row ∷ row ∷ []) → ⊥)

-- ---- forks

-- the register has, after this answer, all that was shown
abbrev pub IsTaken : Answer → Type 0
IsTaken (newly_added serial count) = Unit {0}
IsTaken (same serial count) = Unit {0}
IsTaken (extended serial count) = Unit {0}
IsTaken (older serial count) = Unit {0}
IsTaken (chain_refused why) = ⊥
IsTaken (forked serial place) = ⊥
IsTaken full = ⊥

-- One row meets a register and is taken; items are served; then another row of the same device meets it, and is
-- answered so.
pub record MeetsLater (maker : PublicKey) (one other : Row) (answer : Answer) : Type 0 where
  pub rows : List Row
  pub between : List Row
  pub later : List Row
  pub after : List Row
  pub first : Answer
  pub listed : List Item
  pub lines : List (List ℕ)
  pub ordered : AreOrdered rows
  pub meets : Meets rows one first between
  pub taken : IsTaken first
  pub run : FleetRun maker between listed lines later
  pub again : Meets later other answer after
  pub same_device : other.serial ≡ one.serial

-- Bytes of a good chain are answered as its row is: they are not refused.
abbrev pub GoodChainsMeet : Type 0
GoodChainsMeet =
    (maker : PublicKey) (rows after : List Row) (bytes : List ℕ) (row : Row) (answer : Answer) → IsBytes bytes
    → IsShown maker bytes row → IsChainAnswered maker rows bytes answer after → Meets rows row answer after

-- Either the hashes of one row are a prefix of the other's, or the second is answered as a fork.
abbrev pub ForksAreCaught : Type 0
ForksAreCaught =
    (maker : PublicKey) (one other : Row) (answer : Answer) → MeetsLater maker one other answer
    → AgreeSoFar one.hashes other.hashes ⊎ ((place : ℕ) × (answer ≡ forked other.serial place))

-- That the serials ascend cannot be left out: where two rows have one serial, each of them is answered `same`, however
-- they differ.
abbrev pub TwoRowsHideAFork : Type 0
TwoRowsHideAFork =
    (one other : Row) → other.serial ≡ one.serial
    → let rows : List Row = one ∷ other ∷ [] in
    Meets rows one (same one.serial (length one.hashes)) rows
    × Meets rows other (same other.serial (length other.hashes)) rows

-- the entries as they are spelled, without their signatures
abbrev pub spelled_entries : List Entry → List (List ℕ)
spelled_entries entries = map entry_format.spelling entries

-- an entry of the first list and one of the second are spelled by two texts that have one hash
pub record SpellingsCollide (one other : List Entry) : Type 0 where
  pub entry : Entry
  pub that : Entry
  pub in_one : Contains one entry
  pub in_other : Contains other that
  pub collide : Collide (entry_format.spelling entry) (entry_format.spelling that)

-- Where the hashes of entries agree, the entries do, or else two of them are spelled by texts that have one hash.
abbrev pub HashesTellOfEntries : Type 0
HashesTellOfEntries =
    (one other : List Entry) → AgreeSoFar (map entry_hash one) (map entry_hash other)
    → AgreeSoFar (spelled_entries one) (spelled_entries other) ⊎ SpellingsCollide one other

-- A log that has parted from one that was shown, as after the use of an old image, is answered as a fork, or else an
-- entry of each are spelled by texts that have one hash.
abbrev pub PartedLogsAreCaught : Type 0
PartedLogsAreCaught =
    (maker : PublicKey) (one other : Row) (answer : Answer) (shown parted : List Entry) → IsRowOf shown one
    → IsRowOf parted other → (AgreeSoFar (spelled_entries shown) (spelled_entries parted) → ⊥)
    → MeetsLater maker one other answer
    → ((place : ℕ) × (answer ≡ forked other.serial place)) ⊎ SpellingsCollide shown parted

-- ---- honest devices

-- if the row has the serial of this log, its hashes are those of a prefix of the log
abbrev pub IsTrueTo : List Entry → Row → Type 0
IsTrueTo log row = serial_of log ≡ Some row.serial → IsHashPrefix row.hashes (map entry_hash log)

-- if the bytes spell a good chain with the serial of this log, no entry of it was forged
abbrev pub IsHonestChain : PublicKey → List SignedEntry → List ℕ → Type 0
IsHonestChain maker log bytes =
    (chain : Chain) → Spells chain_format bytes chain → AreGood maker chain.entries
    → serial_of (entries_of chain.entries) ≡ serial_of (entries_of log) → Honest chain.entries maker (entries_of log)

-- if the item shows a chain with the serial of this log, no entry of the chain was forged; a question shows none
abbrev pub IsHonestItem : PublicKey → List SignedEntry → Item → Type 0
IsHonestItem maker log (Show bytes) = IsHonestChain maker log bytes
IsHonestItem maker log (Find layer hash) = Unit {0}
IsHonestItem maker log (Codes layer) = Unit {0}

-- If a register begins with rows that are true to a device's log, as one without rows is, and no chain of that device
-- that it is shown is forged, no chain is answered as a fork of that device.
abbrev pub HonestDevicesAreNotAccused : Type 0
HonestDevicesAreNotAccused =
    (maker : PublicKey) (log : List SignedEntry) (serial : List ℕ) (rows between after : List Row)
    → (listed : List Item) (lines : List (List ℕ)) (bytes : List ℕ) (place : ℕ) → EachFollows log
    → serial_of (entries_of log) ≡ Some serial → All (IsTrueTo (entries_of log)) rows
    → FleetRun maker rows listed lines between → All (IsHonestItem maker log) listed → IsHonestChain maker log bytes
    → IsChainAnswered maker between bytes (forked serial place) after → ⊥

-- One forged chain that is shown first is enough: the device's own row is then answered as a fork.
abbrev pub ForgedRowsAccuse : Type 0
ForgedRowsAccuse =
    (forged own : Row) (place : ℕ) → forged.serial ≡ own.serial → DifferAt forged.hashes own.hashes place
    → Meets [] forged (newly_added forged.serial (length forged.hashes)) (forged ∷ [])
    × Meets (forged ∷ []) own (forked own.serial place) (forged ∷ [])

-- A row that is answered as a fork differs from one of the register for the same device: neither is a prefix of the
-- other.
abbrev pub AccusedRowsDiffer : Type 0
AccusedRowsDiffer =
    (rows after : List Row) (row : Row) (serial : List ℕ) (place : ℕ) → Meets rows row (forked serial place) after
    → (old : Row) × Contains rows old × (old.serial ≡ row.serial) × (AgreeSoFar old.hashes row.hashes → ⊥)
