-- Calls: the stored code of a layer runs on an input, changes its region as it asks, and a key of the region signs what
-- it answers. Who can have made such a statement?
use Rattle.std.specs.Prelude.{◌≡◌, ◌⊎◌, ℕ, nat_lt, nat_le, Bool, true, false, not, ◌||◌}
use Rattle.std.specs.Prelude.{List, [], ◌∷◌, find, Option, None, Some, Result, Ok, Err, if◌then◌else◌}
use Rattle.sha2.specs.Sha256.{sha256}
use Rattle.mb_format.specs.Format.{Spells}
use Rattle.mb_model.specs.declared.limits.TheConstants.{KEY_USES, CALL_STEPS}
use Rattle.mb_model.specs.declared.entry.Said.TheVariants.{Answer}
use Rattle.mb_model.specs.declared.entry.Statement.{Statement}
use Rattle.mb_model.specs.declared.region.Region.{Region}
use Rattle.mb_model.specs.declared.region.RegionKey.{RegionKey}
use Rattle.mb_model.specs.declared.running.AppEnd.{AppEnd}
use Rattle.mb_model.specs.declared.running.AppEnd.TheVariants as end
use Rattle.mb_model.specs.declared.state.State.{State}
use Rattle.mb_model.specs.declared.reply.Reply.{Reply}
use Rattle.mb_model.specs.declared.reply.Reply.TheVariants as reply
use Rattle.mb_model.specs.declared.reply.Refusal.{Refusal}
use Rattle.mb_model.specs.declared.reply.Refusal.TheVariants.{WrongLayer, WrongCode, RunFailed, NoSuchKey, KeySpent}
use Rattle.mb_model.specs.application.Runs.{AppRun, readable_secrets}
use Rattle.mb_model.specs.machine.Actions.{Demand, to_keep, to_drop, Action, action_format, begins_with_call_word}
use Rattle.mb_model.specs.machine.LayerEvents.{Outcome, has_number, with_use, put_event, drop_event, code_in}
use Rattle.mb_model.specs.machine.Refusals.{refusal_reply}
use Rattle.mb_model.specs.machine.SignedTexts.{call_text}
use Rattle.mb_model.specs.owners.Layers.{is_runnable}
use Rattle.mb_model.specs.owners.Log.{entries_of, number_of}
use Rattle.mb_model.specs.owners.Regions.{region_of, with_region}
use Rattle.mb_model.specs.records.ChainFormat.{statement_format}
use Rattle.mb_model.specs.signatures.Signing.{signature_of}

-- whether a reply is a refusal
abbrev pub refuses : Reply → Bool
refuses (reply.Refused number) = true
refuses _ = false

-- ---- calls

-- a call: the layer whose code runs, the number of the key that signs, if one does, and the input
pub record Call : Type 0 where
  pub layer : ℕ
  pub key : Option ℕ
  pub input : List ℕ

-- a key that is asked for stands in the region and has an index left
abbrev pub usable_key : Option RegionKey → Result (Option RegionKey) Refusal
usable_key None = Err NoSuchKey
usable_key (Some key) = if nat_le KEY_USES key.uses then Err KeySpent else Ok (Some key)

-- the key that signs the answer, none if none is asked for, or why the call is refused
abbrev pub key_for : Option ℕ → Region → Result (Option RegionKey) Refusal
key_for None region = Ok None
key_for (Some number) region = usable_key (find (has_number number) region.keys)

-- ---- what the code asks for is done

-- each demand is what `put` or `drop` does; to drop what is not there does nothing
abbrev pub demand_outcome : ℕ → Demand → State → Outcome
demand_outcome layer (to_keep name value) state = put_event layer name value state
demand_outcome layer (to_drop name) state = drop_event layer name state

-- after an outcome that is not refused
abbrev pub unless_refused : Outcome → (State → Option State) → Option State
unless_refused outcome onwards = if refuses outcome.0 then None else onwards outcome.1

-- the state after the demands, in their order; none if one cannot be met: the region is full
unfoldable pub after_demands : ℕ → List Demand → State → Option State
after_demands layer [] state = Some state
after_demands layer (demand ∷ later) state =
    unless_refused (demand_outcome layer demand state) (λ next. after_demands layer later next)

-- the statement that the key signs
unfoldable pub call_statement_of : State → RegionKey → List ℕ → List ℕ → Statement
call_statement_of state key input answer =
    let number = number_of (entries_of state.log) in
    record {
      number = number;
      said = Answer (sha256 input) answer;
      signature = signature_of key.seed key.uses (call_text state.serial key.number number (sha256 input) answer);
    }

-- the answer, and one more use of the key if one signs
abbrev pub answer_by : ℕ → Option RegionKey → List ℕ → List ℕ → State → State → Outcome
answer_by layer None input answer before after = (reply.Called answer, after)
answer_by layer (Some key) input answer before after =
    let region = region_of after layer in (
      reply.Signed key.number key.uses (statement_format.spelling (call_statement_of before key input answer)),
      with_region after layer (record region { keys = with_use key.number region.keys }),
    )

-- the demands are met and the answer is given, in one; or nothing has changed
abbrev pub act_on : ℕ → Option RegionKey → List ℕ → List ℕ → State → Option State → Outcome
act_on layer key input answer before None = (refusal_reply RunFailed, before)
act_on layer key input answer before (Some after) = answer_by layer key input answer before after

-- an output is an action, which is done; or it is none, and nothing has changed
pub data Acts (state : State) (layer : ℕ) (key : Option RegionKey) (input output : List ℕ) (outcome : Outcome)
    : Type 0 where
  does_act : (action : Action) → Spells action_format output action
      → outcome ≡ act_on layer key input action.answer state (after_demands layer action.demands state)
      → Acts state layer key input output outcome
  asks_nothing : ((action : Action) → Spells action_format output action → ⊥)
      → outcome ≡ (refusal_reply RunFailed, state) → Acts state layer key input output outcome

-- What the end of the run comes to. Of a run that ends otherwise than by its `halt`, nothing is told: neither what it
-- emitted, nor where it stopped, nor why.
abbrev pub EndsIn : State → ℕ → Option RegionKey → List ℕ → AppEnd → Outcome → Type 0
EndsIn state layer key input (end.Halted steps output) outcome = Acts state layer key input output outcome
EndsIn state layer key input (end.Trap cause place output) outcome = outcome ≡ (refusal_reply RunFailed, state)
EndsIn state layer key input (end.OutOfSteps output) outcome = outcome ≡ (refusal_reply RunFailed, state)

-- the code runs on the input, with the secrets as they stand, and this is what its end comes to
pub record RunsIn
    (state : State) (call : Call) (key : Option RegionKey) (code : List ℕ) (outcome : Outcome) : Type 0 where
  pub ending : AppEnd
  pub run : AppRun code call.input (readable_secrets state.layers call.layer state.two state.three) CALL_STEPS ending
  pub ends : EndsIn state call.layer key call.input ending outcome

-- The key is looked up before the code runs, so that a refusal for want of a key tells nothing of the run.
abbrev pub WithKey : State → Call → List ℕ → Result (Option RegionKey) Refusal → Outcome → Type 0
WithKey state call code (Err refusal) outcome = outcome ≡ (refusal_reply refusal, state)
WithKey state call code (Ok key) outcome = RunsIn state call key code outcome

-- a call is refused if the layer has no code, or code that takes no calls
abbrev pub WithCode : State → Call → Option (List ℕ) → Outcome → Type 0
WithCode state call None outcome = outcome ≡ (refusal_reply WrongCode, state)
WithCode state call (Some code) outcome =
    ((begins_with_call_word code ≡ false) × (outcome ≡ (refusal_reply WrongCode, state)))
    ⊎ ((begins_with_call_word code ≡ true)
    × WithKey state call code (key_for call.key (region_of state call.layer)) outcome)

-- a call is refused if control is past the layer, or if the layer may not run
abbrev pub OnLayer : ℕ → Call → State → Outcome → Type 0
OnLayer level call state outcome =
    (((nat_lt call.layer level || not (is_runnable state.layers call.layer)) ≡ true)
    × (outcome ≡ (refusal_reply WrongLayer, state)))
    ⊎ (((nat_lt call.layer level || not (is_runnable state.layers call.layer)) ≡ false)
    × WithCode state call (code_in state.codes call.layer) outcome)
