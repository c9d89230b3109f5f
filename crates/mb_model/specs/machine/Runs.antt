-- What can be relied on over a whole run of the machine, whatever power does. Does a device ever take back what its log
-- says, or does a key sign twice with one index?
use Rattle.std.specs.Prelude.{◌≡◌, ℕ, ◌<◌, ◌≤◌, IsTrue, List, [], ◌∷◌, ◌++◌, length, All, AllPairs, Any, Contains}
use Rattle.std.specs.Prelude.{Option, None, Some, IsSome}
use Rattle.mb_format.specs.Format.{Spells}
use Rattle.mb_model.specs.declared.key.PublicKey.{PublicKey}
use Rattle.mb_model.specs.declared.order.KeyKind.{KeyKind}
use Rattle.mb_model.specs.declared.entry.SignedEntry.{SignedEntry}
use Rattle.mb_model.specs.declared.entry.Statement.{Statement}
use Rattle.mb_model.specs.declared.event.Answered.{Answered}
use Rattle.mb_model.specs.declared.region.RegionKey.{RegionKey}
use Rattle.mb_model.specs.declared.reply.Reply.TheVariants as reply
use Rattle.mb_model.specs.declared.state.Configuration.{Configuration}
use Rattle.mb_model.specs.declared.state.Report.{Report}
use Rattle.mb_model.specs.declared.state.State.{State}
use Rattle.mb_model.specs.signatures.Merkle.{leaf_number}
use Rattle.mb_model.specs.owners.Layers.{is_upper}
use Rattle.mb_model.specs.owners.Log.{entries_of, device_in}
use Rattle.mb_model.specs.owners.Lives.{Alive, configuration, lives_of}
use Rattle.mb_model.specs.signatures.Signing.{public_of}
use Rattle.mb_model.specs.records.ChainFormat.{statement_format, chain_format}
use Rattle.mb_model.specs.chains.Attach.{stated_chain}
use Rattle.mb_model.specs.chains.Acceptance.{IsBornOf, Accepts}
use Rattle.mb_model.specs.owners.Regions.{region_of}
use Rattle.mb_model.specs.machine.Machine.{World, Run}
use Rattle.mb_model.specs.memories.Valid.{as_made, Valid}

-- the worlds of a run, in order: that before it, and those to which the events lead
abbrev pub worlds_of : (world : World) (answered : List Answered) (next : World) → Run world answered next → List World
worlds_of world [] next run = world ∷ []
worlds_of world (this ∷ rest) next run = world ∷ worlds_of run.0 rest next run.2

-- ---- the log

-- the earlier log is a prefix of the later one
abbrev pub BeginsWith : List SignedEntry → List SignedEntry → Type 0
BeginsWith later earlier = (more : List SignedEntry) × (later ≡ earlier ++ more)

-- if the second world has a live state, then so has the first, and the log of the first is a prefix of the second's
abbrev pub LogGoesOn : World → World → Type 0
LogGoesOn first second =
    (later : State) → second.state ≡ Some later
    → (earlier : State) × (first.state ≡ Some earlier) × BeginsWith later.log earlier.log

-- ---- the keys of devices

-- the entry names a device key
abbrev pub NamesDevice : SignedEntry → Type 0
NamesDevice signed = IsSome (device_in signed.entry)

-- The device key in charge of `signed`, an entry of a log, is the one that an earlier entry, `namer`, names: none of
-- the entries between the two names a device key. `front` are the entries before `namer`.
pub record HasInCharge
    (log front : List SignedEntry)
    (namer : SignedEntry)
    (between : List SignedEntry)
    (signed : SignedEntry) : Type 0 where
  pub rest : List SignedEntry
  pub split : log ≡ front ++ namer ∷ between ++ signed ∷ rest
  pub names : NamesDevice namer
  pub none : All (λ other. device_in other.entry ≡ None) between

-- Of two entries that have the key of one and the same entry in charge, the later has the higher index.
abbrev pub SignsEntriesOnce : List SignedEntry → Type 0
SignsEntriesOnce log =
    (front : List SignedEntry) (namer : SignedEntry) (sooner later : List SignedEntry)
    (first_entry second_entry : SignedEntry)
    → HasInCharge log front namer sooner first_entry → HasInCharge log front namer later second_entry
    → length sooner < length later → leaf_number first_entry.signature < leaf_number second_entry.signature

-- ---- the keys of regions

-- the event was answered with a statement of the key with this number, signed at this index
abbrev pub IsSignedAt : ℕ → ℕ → Answered → Type 0
IsSignedAt key_number index answered = (statement : List ℕ) × (answered.reply ≡ reply.Signed key_number index statement)

-- Of two statements of one key, the later has the higher index, so no two have the same index.
abbrev pub SignsStatementsOnce : List Answered → Type 0
SignsStatementsOnce answered =
    AllPairs (λ sooner later. (key_number sooner_index later_index : ℕ) → IsSignedAt key_number sooner_index sooner
    → IsSignedAt key_number later_index later → sooner_index < later_index) answered

-- No statement has an index below the uses that its key has in this state.
abbrev pub SignsAfterUses : Option State → List Answered → Type 0
SignsAfterUses state answered =
    (live : State) (layer : ℕ) (key : RegionKey) → state ≡ Some live → Contains (region_of live layer).keys key
    → All (λ each. (index : ℕ) → IsSignedAt key.number index each → key.uses ≤ index) answered

-- A key of a layer is in its region exactly if it is alive according to the log. The last of the configurations in
-- which such a key lived has the current layers. The number of that configuration is no free choice: it stands in the
-- list of `lives_of`. To name it by the last change at a layer up to the key's own would be a second definition of what
-- the list has.
pub record HoldsLivingKeys (live : State) (layer : ℕ) : Type 0 where
  pub alive : (key : RegionKey)
      → Contains (region_of live layer).keys key
      → Alive (entries_of live.log) key.number layer key.kind (public_of key.seed)
  pub held : (key_number : ℕ) (kind : KeyKind) (key : PublicKey)
      → Alive (entries_of live.log) key_number layer kind key
      → Any (λ each. as_made each ≡ record { number = key_number; kind = kind; key = key }) (region_of live layer).keys
  pub now : (key : RegionKey)
      → Contains (region_of live layer).keys key
      → (sooner : List Configuration) × (number : ℕ)
      × (lives_of (entries_of live.log) key.number ≡ sooner ++ configuration layer number live.layers ∷ [])

-- ---- statements

-- The bytes spell a statement. Attached to the log, it makes a chain that has a spelling and is accepted for the key
-- with this number.
pub record StaysAccepted (maker : PublicKey) (log : List SignedEntry) (key_number : ℕ) (bytes : List ℕ) : Type 0 where
  pub statement : Statement
  pub spelled : Spells statement_format bytes statement
  pub chain : List ℕ
  pub attached : Spells chain_format chain (stated_chain log statement)
  pub report : Report
  pub accepted : Accepts maker chain key_number report

-- if the device of this world is alive and the maker signed its birth, the bytes stay accepted with its log
abbrev pub IsAcceptedIn : ℕ → List ℕ → World → Type 0
IsAcceptedIn key_number bytes world =
    (maker : PublicKey) (live : State) → world.state ≡ Some live → IsBornOf maker live.log
    → StaysAccepted maker live.log key_number bytes

-- each statement that is answered in a run is accepted with the log of each live state from then on
abbrev pub StatementsStayAccepted :
    (world : World) (answered : List Answered) (next : World) → Run world answered next → Type 0
StatementsStayAccepted world [] next run = Unit {0}
StatementsStayAccepted world (this ∷ rest) next run =
    ((key_number index : ℕ) (bytes : List ℕ) → this.reply ≡ reply.Signed key_number index bytes
    → All (IsAcceptedIn key_number bytes) (worlds_of run.0 rest next run.2))
    × StatementsStayAccepted run.0 rest next run.2

-- ---- a history

-- A sound world: its state is one that a device can have, the regions hold exactly the living keys, and no two entries
-- of the log with one and the same device key in charge have the same index.
pub record IsSoundWorld (world : World) : Type 0 where
  pub valid : Valid world.state
  pub keys : (live : State) (layer : ℕ) → world.state ≡ Some live → IsTrue (is_upper layer) → HoldsLivingKeys live layer
  pub once : (live : State) → world.state ≡ Some live → SignsEntriesOnce live.log

-- A sound run, whatever its events: each of its worlds is sound, each log is a prefix of each later one, and of two
-- statements for one key number the later has the higher index. No statement has an index below the uses that its key
-- had before the run.
pub record IsSoundRun
    (world : World)
    (answered : List Answered)
    (next : World)
    (run : Run world answered next) : Type 0 where
  pub sound : All IsSoundWorld (worlds_of world answered next run)
  pub logs : AllPairs LogGoesOn (worlds_of world answered next run)
  pub statements : SignsStatementsOnce answered
  pub uses : SignsAfterUses world.state answered
