-- What a call comes to that is answered: what the code asked for is done.
use Rattle.std.proofs.Common.{◌≡◌, ◌≤◌, ◌<◌, ◌⊎◌, ℕ, List, [], ◌∷◌, inl, inr, Option, None, Some, Bool, true, false, refl, sym, ap, ◌∙◌, subst, arith}
use Rattle.std.specs.Prelude.{Result, Ok, Err, not, nat_lt, nat_le, ◌||◌, find, if◌then◌else◌, Contains}
use Rattle.mb_format.specs.Format.{Spells}
use Rattle.mb_model.specs.declared.region.RegionKey.{RegionKey}
use Rattle.mb_model.specs.declared.reply.Refusal.{Refusal}
use Rattle.mb_model.specs.declared.reply.Refusal.TheVariants.{WrongLayer, NoSuchKey, KeySpent}
use Rattle.mb_model.specs.declared.reply.Reply.{Reply}
use Rattle.mb_model.specs.declared.reply.Reply.TheVariants as reply
use Rattle.mb_model.specs.declared.state.State.{State}
use Rattle.mb_model.specs.machine.LayerEvents.{Outcome, has_number, code_in}
use Rattle.mb_model.specs.machine.Machine.{Phase, off, dead, ratchet, World, running_state, running_state_in, CallTold}
use Rattle.mb_model.specs.machine.Refusals.{refusal_reply}
use Rattle.mb_model.specs.owners.Layers.{is_runnable, Runnable}
use Rattle.mb_model.specs.owners.Regions.{region_of}
use Rattle.mb_model.specs.declared.running.AppEnd.{AppEnd}
use Rattle.mb_model.specs.declared.running.AppEnd.TheVariants as end
use Rattle.mb_model.specs.application.Runs.{AppRun, readable_secrets}
use Rattle.mb_model.specs.machine.Actions.{Action, action_format, begins_with_call_word}
use Rattle.mb_model.specs.declared.limits.TheConstants.{CALL_STEPS}
use Rattle.mb_model.specs.machine.Calls.{Call, usable_key, key_for, after_demands, answer_by, act_on, Acts, does_act, asks_nothing, EndsIn, RunsIn, WithKey, WithCode, OnLayer}

-- a reply to a call that is answered
abbrev pub is_answered : Reply → Bool
is_answered (reply.Called answer) = true
is_answered (reply.Signed key index statement) = true
is_answered other = false

-- the call was answered: its code ran and halted, and what it asked for was done
pub record IsAnswered (state : State) (call : Call) (outcome : Outcome) : Type 0 where
  pub code : List ℕ
  pub stored : code_in state.codes call.layer ≡ Some code
  pub takes : begins_with_call_word code ≡ true
  pub key : Option RegionKey
  pub found : key_for call.key (region_of state call.layer) ≡ Ok key
  pub steps : ℕ
  pub output : List ℕ
  pub run : AppRun code call.input (readable_secrets state.layers call.layer state.two state.three) CALL_STEPS (end.Halted steps output)
  pub action : Action
  pub spelled : Spells action_format output action
  pub done : State
  pub met : after_demands call.layer action.demands state ≡ Some done
  pub comes : outcome ≡ answer_by call.layer key call.input action.answer state done

-- it is refused, and the state is left
abbrev pub IsRefusedCall : State → Outcome → Type 0
IsRefusedCall state outcome = ((number : ℕ) × (outcome.0 ≡ reply.Refused number)) × (outcome.1 ≡ state)

refused_so : (state : State) (number : ℕ) (outcome : Outcome) → outcome ≡ (reply.Refused number, state) → IsRefusedCall state outcome
refused_so state number outcome same = ((number, ap (λ (o : Outcome). o.0) same), ap (λ (o : Outcome). o.1) same)

acted_by : (state : State) (call : Call) (outcome : Outcome) (code : List ℕ) (key : Option RegionKey) (steps : ℕ) (output : List ℕ)
    → code_in state.codes call.layer ≡ Some code → begins_with_call_word code ≡ true → key_for call.key (region_of state call.layer) ≡ Ok key
    → AppRun code call.input (readable_secrets state.layers call.layer state.two state.three) CALL_STEPS (end.Halted steps output)
    → (action : Action) → Spells action_format output action → (after : Option State) → after_demands call.layer action.demands state ≡ after
    → outcome ≡ act_on call.layer key call.input action.answer state after → IsAnswered state call outcome ⊎ IsRefusedCall state outcome
acted_by state call outcome code key steps output stored takes found run action spelled None met is = inr (refused_so state _ outcome is)
acted_by state call outcome code key steps output stored takes found run action spelled (Some done) met is = inl (record {
  code = code;
  stored = stored;
  takes = takes;
  key = key;
  found = found;
  steps = steps;
  output = output;
  run = run;
  action = action;
  spelled = spelled;
  done = done;
  met = met;
  comes = is;
})

ended_by : (state : State) (call : Call) (outcome : Outcome) (code : List ℕ) (key : Option RegionKey)
    → code_in state.codes call.layer ≡ Some code → begins_with_call_word code ≡ true → key_for call.key (region_of state call.layer) ≡ Ok key
    → (ending : AppEnd) → AppRun code call.input (readable_secrets state.layers call.layer state.two state.three) CALL_STEPS ending
    → EndsIn state call.layer key call.input ending outcome → IsAnswered state call outcome ⊎ IsRefusedCall state outcome
ended_by state call outcome code key stored takes found (end.Halted steps output) run (does_act action spelled is) =
    acted_by state call outcome code key steps output stored takes found run action spelled (after_demands call.layer action.demands state) refl is
ended_by state call outcome code key stored takes found (end.Halted steps output) run (asks_nothing none is) = inr (refused_so state _ outcome is)
ended_by state call outcome code key stored takes found (end.Trap cause place output) run is = inr (refused_so state _ outcome is)
ended_by state call outcome code key stored takes found (end.OutOfSteps output) run is = inr (refused_so state _ outcome is)

keyed_by : (state : State) (call : Call) (outcome : Outcome) (code : List ℕ) → code_in state.codes call.layer ≡ Some code → begins_with_call_word code ≡ true
    → (key : Result (Option RegionKey) Refusal) → key_for call.key (region_of state call.layer) ≡ key → WithKey state call code key outcome
    → IsAnswered state call outcome ⊎ IsRefusedCall state outcome
keyed_by state call outcome code stored takes (Err refusal) found is = inr (refused_so state _ outcome is)
keyed_by state call outcome code stored takes (Ok key) found is = ended_by state call outcome code key stored takes found is.ending is.run is.ends

coded_by : (state : State) (call : Call) (outcome : Outcome) (code : Option (List ℕ)) → code_in state.codes call.layer ≡ code → WithCode state call code outcome
    → IsAnswered state call outcome ⊎ IsRefusedCall state outcome
coded_by state call outcome None stored is = inr (refused_so state _ outcome is)
coded_by state call outcome (Some code) stored (inl is) = inr (refused_so state _ outcome is.1)
coded_by state call outcome (Some code) stored (inr is) =
    keyed_by state call outcome code stored is.0 (key_for call.key (region_of state call.layer)) refl is.1

-- the layer may run, no layer above is in control, and the call was answered; or it is refused
pub record AnswersAt (level : ℕ) (call : Call) (state : State) (outcome : Outcome) : Type 0 where
  pub runs : Runnable state.layers call.layer
  pub in_control : nat_lt call.layer level ≡ false
  pub is : IsAnswered state call outcome

both_false : (past runs : Bool) → (past || not runs) ≡ false → (past ≡ false) × (runs ≡ true)
both_false true runs e = absurd (grind (arith, e))
both_false false true e = (refl, refl)
both_false false false e = absurd (grind (arith, e))

pub on_layer_comes : (level : ℕ) (call : Call) (state : State) (outcome : Outcome) → OnLayer level call state outcome
    → AnswersAt level call state outcome ⊎ IsRefusedCall state outcome
on_layer_comes level call state outcome (inl is) = inr (refused_so state _ outcome is.1)
on_layer_comes level call state outcome (inr is) =
    let may = both_false (nat_lt call.layer level) (is_runnable state.layers call.layer) is.0 in
    elim (coded_by state call outcome (code_in state.codes call.layer) refl is.1) [
      | inl answered ↦ inl (record { runs = may.1; in_control = may.0; is = answered })
      | inr refused ↦ inr refused
    ]

-- its reply is that of an answer
answered_by : (call : Call) (state : State) (outcome : Outcome) (is : IsAnswered state call outcome) → (key : Option RegionKey) → is.key ≡ key → is_answered outcome.0 ≡ true
answered_by call state outcome is None same =
    ap (λ (o : Outcome). is_answered o.0) is.comes ∙ ap (λ (k : Option RegionKey). is_answered (answer_by call.layer k call.input is.action.answer state is.done).0) same
answered_by call state outcome is (Some key) same =
    ap (λ (o : Outcome). is_answered o.0) is.comes ∙ ap (λ (k : Option RegionKey). is_answered (answer_by call.layer k call.input is.action.answer state is.done).0) same

pub answered_is : (call : Call) (state : State) (outcome : Outcome) → IsAnswered state call outcome → is_answered outcome.0 ≡ true
answered_is call state outcome is = answered_by call state outcome is is.key refl
