-- Laws of several chains, of one device and of many. Can two chains of one device contradict one another, and of which
-- device is a chain?
use Rattle.std.specs.Prelude.{◌≡◌, ◌≢◌, ◌<◌, ◌⊎◌, ℕ, List, [], ◌∷◌, ◌++◌, length, All, Any, Contains, Some}
use Rattle.mb_model.specs.declared.entry.Entry.{Entry}
use Rattle.mb_model.specs.declared.entry.SignedEntry.{SignedEntry}
use Rattle.mb_model.specs.declared.key.PublicKey.{PublicKey}
use Rattle.mb_model.specs.declared.limits.TheConstants.{ENTRY_LIMIT}
use Rattle.mb_model.specs.declared.order.Act.TheVariants as act
use Rattle.mb_model.specs.declared.order.Order.{Order}
use Rattle.mb_model.specs.declared.order.Payload.{Payload}
use Rattle.mb_model.specs.declared.state.Configuration.{Configuration}
use Rattle.mb_model.specs.declared.state.Report.{Report}
use Rattle.mb_model.specs.declared.state.State.{State}
use Rattle.mb_model.specs.declared.tools.Keyfile.{Keyfile}
use Rattle.mb_model.specs.chains.Acceptance.{AreGood, Accepts, Honest}
use Rattle.mb_model.specs.owners.Lives.{lives_of}
use Rattle.mb_model.specs.owners.Log.{device_in, entries_of, serial_of, RuledLog}
use Rattle.mb_model.specs.machine.Machine.{World}
use Rattle.mb_model.specs.signatures.Merkle.{Verifies}
use Rattle.mb_model.specs.machine.OrderEffects.{state_after_order}
use Rattle.mb_model.specs.machine.SignedTexts.{entry_text}
use Rattle.mb_model.specs.memories.Valid.{EachFollows, IsValidState}
use Rattle.mb_model_histories.specs.RepairLaws.{CanBeLoaded, CanBeGiven, HasKeyOf, plain_order}

-- the first list of entries is a prefix of the second, which may be equal
abbrev pub IsPrefixOf : List Entry → List Entry → Type 0
IsPrefixOf short long = (rest : List Entry) × (long ≡ short ++ rest)

-- one of the two is a prefix of the other
abbrev pub AreOfOnePast : List Entry → List Entry → Type 0
AreOfOnePast one other = IsPrefixOf one other ⊎ IsPrefixOf other one

-- ---- chains of one device

-- Of two chains of one device without forged entries, the entries of one are a prefix of the other's, whatever key each
-- was verified under.
abbrev pub HonestChainsAgree : Type 0
HonestChainsAgree =
    (maker root : PublicKey) (one other log : List SignedEntry) → EachFollows log → AreGood maker one
    → AreGood root other → Honest one maker (entries_of log) → Honest other root (entries_of log)
    → AreOfOnePast (entries_of one) (entries_of other)

-- What a device hands out has no forged entry: each prefix of its log is such a chain.
abbrev pub OwnChainsAreHonest : Type 0
OwnChainsAreHonest =
    (log more : List SignedEntry) (maker : PublicKey) → Honest log maker (entries_of (log ++ more))

-- Of two devices that were one, the chains may not agree: from one valid state the owner of layer 1 can order either of
-- two loads with two versions, and neither log is then a prefix of the other. That both chains are of one log cannot be
-- left out.
abbrev pub ReplayedImagesPart : Type 0
ReplayedImagesPart =
    (here : World) (state : State) (keyfile : Keyfile) (first second : Payload) (draw : List ℕ) → IsValidState state
    → here.state ≡ Some state → HasKeyOf state 1 keyfile → CanBeLoaded first → CanBeLoaded second
    → first.version ≢ second.version → length state.log < ENTRY_LIMIT
    → let one : Order = plain_order keyfile 1 (act.Load first) in
    let other : Order = plain_order keyfile 1 (act.Load second) in
    let log : List SignedEntry = (state_after_order state one draw).log in
    let parted : List SignedEntry = (state_after_order state other draw).log in
    CanBeGiven here state one draw × CanBeGiven here state other draw
    × (AreOfOnePast (entries_of log) (entries_of parted) → ⊥)

-- ---- one of many devices

-- A chain has no forged entry of any of the devices with these logs: its first entry is the first of one of the logs if
-- it verifies under the maker's key, and each later entry that verifies under a device key that a log names is one of
-- that log's. Entries are compared without their signatures.
pub record IsHonestAmong
    (logs : List (List SignedEntry))
    (maker : PublicKey)
    (entries : List SignedEntry) : Type 0 where
  pub first : (signed : SignedEntry) (rest : List SignedEntry)
      → entries ≡ signed ∷ rest
      → Verifies maker (entry_text signed.entry) signed.signature
      → (log : List SignedEntry) × Contains logs log × ((later : List Entry) × (entries_of log ≡ signed.entry ∷ later))
  pub later : (before : List SignedEntry) (signed : SignedEntry) (rest : List SignedEntry)
      → entries ≡ before ++ signed ∷ rest
      → before ≢ [] → (log : List SignedEntry) → Contains logs log
      → (key : PublicKey) → Any (λ entry. device_in entry ≡ Some key) (entries_of log)
      → Verifies key (entry_text signed.entry) signed.signature → Contains (entries_of log) signed.entry

-- Of all devices that a maker made, a chain without forged entries is a prefix of the log of one, and names its serial.
-- Whoever verifies it needs no log.
abbrev pub HonestChainsTellOfOneDevice : Type 0
HonestChainsTellOfOneDevice =
    (logs : List (List SignedEntry)) (maker : PublicKey) (birth : SignedEntry) (rest : List SignedEntry)
    → All EachFollows logs → AreGood maker (birth ∷ rest) → IsHonestAmong logs maker (birth ∷ rest)
    → (log : List SignedEntry) × Contains logs log
    × IsPrefixOf (entries_of (birth ∷ rest)) (entries_of log)
    × (serial_of (entries_of (birth ∷ rest)) ≡ serial_of (entries_of log))

-- A chain without entries is good and has no forged entry, of no device at all. So a first entry cannot be left out.
abbrev pub NothingIsOfNoDevice : Type 0
NothingIsOfNoDevice =
    (maker : PublicKey) → AreGood maker [] × IsHonestAmong [] maker []
    × ((log : List SignedEntry) → Contains [] log → ⊥)

-- For one device alone, `IsHonestAmong` says the same as `Honest`.
abbrev pub HonestAmongOneIsHonest : Type 0
HonestAmongOneIsHonest =
    (log : List SignedEntry) (maker : PublicKey) (entries : List SignedEntry)
    → (IsHonestAmong (log ∷ []) maker entries → Honest entries maker (entries_of log))
    × (Honest entries maker (entries_of log) → IsHonestAmong (log ∷ []) maker entries)

-- ---- longer chains

-- The listing of a longer log begins with that of a shorter one.
abbrev pub LivesBeginWith : Type 0
LivesBeginWith =
    (log more : List Entry) (key_number : ℕ) → RuledLog (log ++ more)
    → (rest : List Configuration) × (lives_of (log ++ more) key_number ≡ lives_of log key_number ++ rest)

-- Of entries that break the rules this need not be so, as if two make a key with one number.
abbrev pub UnruledLivesMayNot : Type 0
UnruledLivesMayNot =
    (log more : List Entry) × (key_number : ℕ)
    × ((rest : List Configuration) → lives_of (log ++ more) key_number ≡ lives_of log key_number ++ rest → ⊥)

-- Of two accepted chains, one of which is a prefix of the other, the shorter has the first of the configurations listed
-- that the longer has, and no other.
abbrev pub ShortenedChainsListLess : Type 0
ShortenedChainsListLess =
    (maker root : PublicKey) (short long : List ℕ) (key_number : ℕ) (one other : Report)
    → (accepts : Accepts maker short key_number one) (accepts_long : Accepts root long key_number other)
    → IsPrefixOf (entries_of accepts.chain.entries) (entries_of accepts_long.chain.entries)
    → (rest : List Configuration) × (other.lives ≡ one.lives ++ rest)
