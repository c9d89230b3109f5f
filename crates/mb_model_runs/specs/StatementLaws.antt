-- Laws of statements. Is what a key once stated accepted with a later chain?
use Rattle.std.specs.Prelude.{◌≡◌, ℕ, ◌<◌, List, All, Contains, Some}
use Rattle.sha2.specs.Sha256.{sha256}
use Rattle.mb_format.specs.Format.{IsBytes, Spells}
use Rattle.mb_model.specs.declared.key.PublicKey.{PublicKey}
use Rattle.mb_model.specs.declared.event.Answered.{Answered}
use Rattle.mb_model.specs.declared.event.Event.{Event}
use Rattle.mb_model.specs.declared.event.Event.TheVariants.{Sign, Call}
use Rattle.mb_model.specs.declared.entry.SignedEntry.{SignedEntry}
use Rattle.mb_model.specs.declared.entry.Said.{Said}
use Rattle.mb_model.specs.declared.entry.Said.TheVariants.{Message, Answer}
use Rattle.mb_model.specs.declared.entry.Statement.{Statement}
use Rattle.mb_model.specs.declared.region.RegionKey.{RegionKey}
use Rattle.mb_model.specs.declared.reply.Reply.TheVariants as reply
use Rattle.mb_model.specs.declared.state.State.{State}
use Rattle.mb_model.specs.owners.Log.{entries_of, number_of}
use Rattle.mb_model.specs.chains.Script.{IsScriptEvent}
use Rattle.mb_model.specs.signatures.Signing.{public_of, signature_of}
use Rattle.mb_model.specs.records.ChainFormat.{statement_format, chain_format}
use Rattle.mb_model.specs.owners.Regions.{region_of}
use Rattle.mb_model.specs.machine.SignedTexts.{said_text}
use Rattle.mb_model.specs.machine.Machine.{World, Step, Run}
use Rattle.mb_model.specs.memories.Valid.{Valid}
use Rattle.mb_model.specs.chains.Attach.{cut_at, stated_chain}
use Rattle.mb_model.specs.chains.Acceptance.{IsBornOf, KeyEntry, key_of, IsStated, report_of, Accepts}
use Rattle.mb_model.specs.machine.Runs.{worlds_of, StaysAccepted, IsAcceptedIn}
use Rattle.mb_model_memory.specs.Storable.{Storable}

-- ---- statements

-- the statement by which a key of a state says this, signed at its next index
unfoldable pub statement_saying : State → RegionKey → Said → Statement
statement_saying state key said =
    let number = number_of (entries_of state.log) in
    record {
      number = number;
      said = said;
      signature = signature_of key.seed key.uses (said_text state.serial key.number number said);
    }

-- The event asks the key with the number n, of layer L, to say this: `sign` with the message, or `call` with an input
-- that has the hash.
abbrev pub AsksFor : Event → ℕ → ℕ → Said → Type 0
AsksFor event L n (Message message) = event ≡ Sign L n message
AsksFor event L n (Answer hash answer) = (input : List ℕ) × (event ≡ Call L (Some n) input) × (hash ≡ sha256 input)

-- In this state a key of the region of layer L, with the number n, signs a statement that says this at its next index.
pub record IsStatedIn
    (state : State)
    (L : ℕ)
    (said : Said)
    (n index : ℕ)
    (statement : List ℕ) : Type 0 where
  pub key : RegionKey
  pub within : Contains (region_of state L).keys key
  pub number_is : key.number ≡ n
  pub index_is : key.uses ≡ index
  pub left : key.uses < 32
  pub statement_is : statement ≡ statement_format.spelling (statement_saying state key said)

-- An event that is answered by a statement is a request for it, and a key of the state before has signed it.
abbrev pub StatementsAreOfKeys : Type 0
StatementsAreOfKeys =
    (world : World) (event : Event) (n index : ℕ) (statement : List ℕ) (next : World)
    → Step world event (reply.Signed n index statement) next
    → (state : State) × (world.state ≡ Some state)
    × (L : ℕ) × (said : Said) × AsksFor event L n said × IsStatedIn state L said n index statement

-- ---- the chain with a statement

-- what the log says of a key of layer L
abbrev pub key_entry_of : ℕ → RegionKey → KeyEntry
key_entry_of L key = record { layer = L; kind = key.kind; key = public_of key.seed }

-- A statement of a key that is there and has an index left is accepted for the key, if the maker signed the device's
-- birth. It is attached to the log of the state then, or of a later live one of a run.
abbrev pub StatementsAreAccepted : Type 0
StatementsAreAccepted =
    (maker : PublicKey) (world : World) (answered : List Answered) (next : World) (state later : State)
    (L : ℕ) (key : RegionKey) (said : Said) (bytes : List ℕ)
    → Valid world.state → world.state ≡ Some state → Contains (region_of state L).keys key → key.uses < 32
    → Run world answered next → next.state ≡ Some later → IsBornOf maker later.log
    → Spells chain_format bytes (stated_chain later.log (statement_saying state key said))
    → Accepts maker bytes key.number
    (report_of (stated_chain later.log (statement_saying state key said)) key.number (key_entry_of L key))

-- A statement that answers an event, in a valid state that can be stored, is accepted with the log of each later live
-- state of a run. The events are those of a script.
abbrev pub AnswersStayAccepted : Type 0
AnswersStayAccepted =
    (world : World) (event : Event) (n index : ℕ) (bytes : List ℕ) (mid : World)
    (answered : List Answered) (next : World) (run : Run mid answered next)
    → IsScriptEvent event → All (λ this. IsScriptEvent this.event) answered
    → Valid world.state → Storable world.state → Step world event (reply.Signed n index bytes) mid
    → All (IsAcceptedIn n bytes) (worlds_of mid answered next run)

-- A statement that the key did not sign is not accepted: no key that the log gives this number, up to the statement's
-- configuration, verifies it.
abbrev pub ForeignStatementsAreNotAccepted : Type 0
ForeignStatementsAreNotAccepted =
    (maker : PublicKey) (log : List SignedEntry) (n : ℕ) (bytes : List ℕ) (statement : Statement)
    → IsBytes bytes → Spells statement_format bytes statement
    → IsBytes (chain_format.spelling (stated_chain log statement))
    → ((made : KeyEntry) → key_of (entries_of (cut_at statement.number log)) n ≡ Some made
    → IsStated (entries_of (cut_at statement.number log)) n made.key statement → ⊥)
    → StaysAccepted maker log n bytes → ⊥
