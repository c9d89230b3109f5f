-- Laws of accepted statements of calls. Was such a statement made by the code that the chain lists, by its own run, and
-- by nothing else?
use Rattle.std.specs.Prelude.{◌≡◌, ◌≤◌, ◌↔◌, ℕ, List, [], ◌∷◌, ◌++◌, length, true, Some}
use Rattle.std.specs.Int.{w8, w32}
use Rattle.sha2.specs.Sha256.{sha256}
use Rattle.mb_format.specs.Format.{Format, Spells}
use Rattle.mb_format.specs.Combinators.{number, between, pair, sized}
use Rattle.mb_model.specs.declared.entry.Said.TheVariants.{Message, Answer}
use Rattle.mb_model.specs.declared.entry.Statement.{Statement}
use Rattle.mb_model.specs.declared.event.Event.TheVariants as event
use Rattle.mb_model.specs.declared.key.PublicKey.{PublicKey}
use Rattle.mb_model.specs.declared.layer.CodeName.{CodeName}
use Rattle.mb_model.specs.declared.limits.TheConstants.{CALL_STEPS, ENTRY_LIMIT, MESSAGE_LIMIT}
use Rattle.mb_model.specs.declared.running.AppEnd.TheVariants as end
use Rattle.mb_model.specs.declared.state.Report.{Report}
use Rattle.mb_model.specs.declared.state.State.{State}
use Rattle.mb_model.specs.application.Runs.{AppRun, readable_secrets}
use Rattle.mb_model.specs.chains.Acceptance.{Accepts, Honest}
use Rattle.mb_model.specs.machine.Actions.{Action, action_format, call_word, begins_with_call_word}
use Rattle.mb_model.specs.machine.Calls.{after_demands}
use Rattle.mb_model.specs.machine.LayerEvents.{code_in}
use Rattle.mb_model.specs.machine.Machine.{World, opening_world}
use Rattle.mb_model.specs.machine.SignedTexts.{call_text}
use Rattle.mb_model.specs.memories.Factory.{IsFactoryImage}
use Rattle.mb_model.specs.memories.Valid.{Valid}
use Rattle.mb_model.specs.owners.Layers.{layer_of}
use Rattle.mb_model.specs.owners.Log.{entries_of, serial_of}
use Rattle.mb_model.specs.records.ChainFormat.{statement_format}
use Rattle.mb_model.specs.records.EntryFormat.{signature_format}
use Rattle.mb_model.specs.signatures.Signing.{public_of}
use Rattle.mb_model_histories.specs.AcceptanceLaws.{HonestStatement, WasMade}
use Rattle.mb_model_histories.specs.Histories.{ComesAfter}
use Rattle.mb_model_histories.specs.UseLaws.{Beginning, CanBegin, state_begun, ShowsStatement}

-- ---- what code has answered

-- The layer's code takes calls. Run on this input with the secrets of this state, it has ended by its `halt`, it has
-- asked for what could be done, and this was its answer.
pub record RunsWith (state : State) (layer : ℕ) (input answer : List ℕ) : Type 0 where
  pub code : List ℕ
  pub stored : code_in state.codes layer ≡ Some code
  pub takes : begins_with_call_word code ≡ true
  pub steps : ℕ
  pub output : List ℕ
  pub run : AppRun code input (readable_secrets state.layers layer state.two state.three) CALL_STEPS
      (end.Halted steps output)
  pub action : Action
  pub spelled : Spells action_format output action
  pub answer_is : action.answer ≡ answer
  pub done : State
  pub met : after_demands layer action.demands state ≡ Some done

-- The device made this statement at a call, in the last configuration that the report lists. The input of the call has
-- this hash. The layer's code, whose hash that configuration names, gave this answer to it, with the secrets as they
-- then stood.
pub record WasMadeByCode
    (first last : World)
    (key_number : ℕ)
    (report : Report)
    (statement : Statement)
    (hash answer : List ℕ) : Type 0 where
  pub made : WasMade first last key_number report statement
  pub input : List ℕ
  pub asked : made.event ≡ event.Call report.layer (Some key_number) input
  pub hashed : hash ≡ sha256 input
  pub ran : RunsWith made.state report.layer input answer
  pub name : CodeName
  pub listed : (layer_of made.state.layers report.layer).code ≡ Some name
  pub code_is : name.hash ≡ sha256 ran.code

-- If nothing was forged, neither an entry of the chain nor its statement, a call's statement that is accepted was made
-- by the code that the chain lists for the layer, in the device with this log, which has the serial that the chain
-- names.
abbrev pub AcceptedCallsWereMade : Type 0
AcceptedCallsWereMade =
    (maker : PublicKey) (bytes : List ℕ) (key_number : ℕ) (report : Report)
    → (accepts : Accepts maker bytes key_number report) (statement : Statement) (hash answer : List ℕ)
    → (first last : World) (live : State)
    → Valid first.state → ComesAfter last first → last.state ≡ Some live → length live.log ≤ ENTRY_LIMIT
    → Honest accepts.chain.entries maker (entries_of live.log) → accepts.chain.statement ≡ Some statement
    → statement.said ≡ Answer hash answer → HonestStatement first last (entries_of live.log) key_number statement
    → WasMadeByCode first last key_number report statement hash answer
    × (serial_of (entries_of accepts.chain.entries) ≡ Some live.serial)

-- The statement says nothing of the input but its hash: two inputs with one hash make one text.
abbrev pub InputsOfOneHashHaveOneText : Type 0
InputsOfOneHashHaveOneText =
    (one other serial answer : List ℕ) (key_number number : ℕ) → sha256 one ≡ sha256 other
    → call_text serial key_number number (sha256 one) answer ≡ call_text serial key_number number (sha256 other) answer

-- ---- that it can be

-- code that takes calls, emits two bytes 0, and halts: it asks for nothing, and answers nothing
abbrev pub silent_code : List ℕ
silent_code = call_word ++ 0x01 ∷ 0 ∷ 0 ∷ 0 ∷ 0 ∷ 0x42 ∷ 0x01 ∷ 0 ∷ 0 ∷ 0 ∷ 0 ∷ 0x42 ∷ 0x00 ∷ []

-- From each image of a factory a device comes to a statement of a call, with whatever input, whose chain is accepted,
-- if this code is loaded. Neither an entry nor the statement is forged.
abbrev pub CallsCanBeMade : Type 0
CallsCanBeMade =
    (its : Beginning) (image input : List ℕ) → CanBegin its
    → IsFactoryImage its.maker its.index (public_of its.first.seed) its.code its.noise image
    → its.payload.code ≡ silent_code
    → ShowsStatement (public_of its.maker) (opening_world (Some (state_begun its))) (Answer (sha256 input) [])

-- Code that halts at once has emitted no action, and answers nothing to any input.
abbrev pub HaltingCodeAnswersNothing : Type 0
HaltingCodeAnswersNothing =
    (state : State) (layer : ℕ) (input answer : List ℕ)
    → code_in state.codes layer ≡ Some (call_word ++ 0x00 ∷ []) → RunsWith state layer input answer → ⊥

-- ---- statements as they were before there were calls

-- the configuration number, a message of at most 128 bytes after its length, and the signature
abbrev pub plain_format : Format (ℕ × (List ℕ × List ℕ))
plain_format = pair (number w32) (pair (sized (between w8 0 MESSAGE_LIMIT)) signature_format)

-- Bytes spell a statement of a message exactly if these three spell them.
abbrev pub StatementsKeepTheirBytes : Type 0
StatementsKeepTheirBytes =
    (bytes message signature : List ℕ) (number : ℕ)
    → Spells plain_format bytes (number, (message, signature))
    ↔ Spells statement_format bytes (record { number = number; said = Message message; signature = signature })

-- They spell no statement of a call.
abbrev pub CallsHaveOtherBytes : Type 0
CallsHaveOtherBytes =
    (bytes message signature hash answer mark : List ℕ) (number other_number : ℕ)
    → Spells plain_format bytes (number, (message, signature))
    → Spells statement_format bytes (record { number = other_number; said = Answer hash answer; signature = mark }) → ⊥
