-- Laws of statements that are accepted. Was an accepted statement made by this device, and by which code?
use Rattle.std.specs.Prelude.{◌≡◌, ◌<◌, ◌≤◌, ℕ, List, [], ◌∷◌, ◌++◌, length, Contains, Some}
use Rattle.mb_format.specs.Format.{Spells}
use Rattle.mb_model.specs.declared.entry.Chain.{Chain}
use Rattle.mb_model.specs.declared.entry.Entry.{Entry}
use Rattle.mb_model.specs.declared.entry.Said.{Said}
use Rattle.mb_model.specs.declared.entry.SignedEntry.{SignedEntry}
use Rattle.mb_model.specs.declared.entry.Statement.{Statement}
use Rattle.mb_model.specs.declared.event.Event.{Event}
use Rattle.mb_model.specs.declared.key.PublicKey.{PublicKey}
use Rattle.mb_model.specs.declared.limits.TheConstants.{ENTRY_LIMIT}
use Rattle.mb_model.specs.declared.region.RegionKey.{RegionKey}
use Rattle.mb_model.specs.declared.reply.Reply.TheVariants as reply
use Rattle.mb_model.specs.declared.state.Configuration.{Configuration}
use Rattle.mb_model.specs.declared.state.Report.{Report}
use Rattle.mb_model.specs.declared.state.State.{State}
use Rattle.mb_model.specs.chains.Acceptance.{IsBornOf, KeyEntry, key_of, Accepts, Honest}
use Rattle.mb_model.specs.records.ChainFormat.{chain_format}
use Rattle.mb_model.specs.owners.Layers.{Runnable}
use Rattle.mb_model.specs.owners.Lives.{configuration}
use Rattle.mb_model.specs.owners.Log.{entries_of, number_of, serial_of}
use Rattle.mb_model.specs.machine.Machine.{ratchet, World, Step}
use Rattle.mb_model.specs.signatures.Merkle.{Verifies}
use Rattle.mb_model.specs.owners.Regions.{region_of}
use Rattle.mb_model.specs.machine.SignedTexts.{said_text}
use Rattle.mb_model.specs.memories.Valid.{AreNamed, IsValidState, Valid}
use Rattle.mb_model_runs.specs.StatementLaws.{statement_saying, AsksFor, IsStatedIn}
use Rattle.mb_model_histories.specs.Histories.{ComesAfter}

-- Between two worlds of a history, at one event, a key with this number signs this text: the event asks for what the
-- text says, and is answered by a statement that says it.
pub record SignsBetween (first last : World) (key_number : ℕ) (text : List ℕ) : Type 0 where
  pub here : World
  pub after : World
  pub state : State
  pub event : Event
  pub layer : ℕ
  pub index : ℕ
  pub said : Said
  pub bytes : List ℕ
  pub before : ComesAfter here first
  pub asked : AsksFor event layer key_number said
  pub step : Step here event (reply.Signed key_number index bytes) after
  pub later : ComesAfter last after
  pub is : here.state ≡ Some state
  pub stated : IsStatedIn state layer said key_number index bytes
  pub text_is : text ≡ said_text state.serial key_number (number_of (entries_of state.log)) said

-- The statement is not forged: if it verifies under the key that this log makes with this number, that key signed its
-- text between these worlds.
abbrev pub HonestStatement : World → World → List Entry → ℕ → Statement → Type 0
HonestStatement first last log key_number statement =
    (made : KeyEntry) (serial : List ℕ) → key_of log key_number ≡ Some made → serial_of log ≡ Some serial
    → let text : List ℕ = said_text serial key_number statement.number statement.said in
    Verifies made.key text statement.signature → SignsBetween first last key_number text

-- Between two worlds of a history the device let the key sign this statement, at a `sign` of its message or at a call
-- that gave its answer, in the last configuration that the report lists: the layers up to the key's own were reliable
-- and had that code, and none above it was in control.
pub record WasMade
    (first last : World)
    (key_number : ℕ)
    (report : Report)
    (statement : Statement) : Type 0 where
  pub here : World
  pub after : World
  pub state : State
  pub event : Event
  pub index : ℕ
  pub bytes : List ℕ
  pub before : ComesAfter here first
  pub asked : AsksFor event report.layer key_number statement.said
  pub step : Step here event (reply.Signed key_number index bytes) after
  pub later : ComesAfter last after
  pub is : here.state ≡ Some state
  pub stated : IsStatedIn state report.layer statement.said key_number index bytes
  pub numbered : number_of (entries_of state.log) ≡ statement.number
  pub sooner : List Configuration
  pub number : ℕ
  pub lives : report.lives ≡ sooner ++ configuration report.layer number state.layers ∷ []
  pub runs : Runnable state.layers report.layer
  pub named : AreNamed state.layers state.codes
  pub level : ℕ
  pub running : here.phase ≡ ratchet level
  pub in_control : level ≤ report.layer

-- If nothing was forged, neither an entry of the chain nor its statement, a statement that is accepted was made by the
-- device with this log, which has the serial that the chain names.
abbrev pub AcceptedStatementsWereMade : Type 0
AcceptedStatementsWereMade =
    (maker : PublicKey) (bytes : List ℕ) (key_number : ℕ) (report : Report)
    → (accepts : Accepts maker bytes key_number report) (statement : Statement) (first last : World) (live : State)
    → Valid first.state → ComesAfter last first → last.state ≡ Some live → length live.log ≤ ENTRY_LIMIT
    → Honest accepts.chain.entries maker (entries_of live.log) → accepts.chain.statement ≡ Some statement
    → HonestStatement first last (entries_of live.log) key_number statement
    → WasMade first last key_number report statement × (serial_of (entries_of accepts.chain.entries) ≡ Some live.serial)

-- a whole log with a statement, as a chain
abbrev pub whole_chain : List SignedEntry → Statement → Chain
whole_chain log statement = record { entries = log; statement = Some statement }

-- That the statement is not forged cannot be left out: what the key signs elsewhere, as in a copy of the device, is
-- accepted with this device's chain, in which no entry is forged, though this device did not make it. So it is with a
-- message, and with an answer that no code ever gave.
abbrev pub StatementsMayBeMadeElsewhere : Type 0
StatementsMayBeMadeElsewhere =
    (maker : PublicKey) (bytes : List ℕ) (said : Said) (world : World) (state : State) (layer : ℕ) (key : RegionKey)
    → IsValidState state → world.state ≡ Some state → Contains (region_of state layer).keys key → key.uses < 32
    → IsBornOf maker state.log
    → let statement : Statement = statement_saying state key said in
    Spells chain_format bytes (whole_chain state.log statement)
    → (report : Report) × (accepts : Accepts maker bytes key.number report)
    × (accepts.chain.statement ≡ Some statement) × Honest accepts.chain.entries maker (entries_of state.log)
    × (WasMade world world key.number report statement → ⊥)
