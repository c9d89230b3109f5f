-- What a call comes to in a state, by what came of its run.
use Rattle.std.proofs.Common.{◌≡◌, ℕ, ◌==◌, List, Bool, true, false, Option, None, Some, inl, inr, refl, sym, ap, subst, ◌∙◌, arith}
use Rattle.std.specs.Prelude.{Result, Ok, Err, if◌then◌else◌}
use mathlib.Core.Path.{fun_ext}
use Rattle.mb_format.specs.Format.{Spells}
use Rattle.mb_model.specs.application.Runs.{is_readable, readable_secrets}
use Rattle.mb_model.specs.declared.layer.Layers.{Layers}
use Rattle.mb_model.specs.declared.region.Region.{Region}
use Rattle.mb_model.specs.declared.region.RegionKey.{RegionKey}
use Rattle.mb_model.specs.declared.region.Secret.{Secret}
use Rattle.mb_model.specs.declared.reply.Refusal.{Refusal}
use Rattle.mb_model.specs.declared.reply.Refusal.TheVariants.{WrongCode, RunFailed}
use Rattle.mb_model.specs.declared.running.AppEnd.{AppEnd}
use Rattle.mb_model.specs.declared.running.AppEnd.TheVariants as end
use Rattle.mb_model.specs.declared.state.State.{State}
use Rattle.mb_model.specs.machine.Actions.{Action, action_format, begins_with_call_word}
use Rattle.mb_model.specs.machine.Calls.{Call, key_for, answer_by, act_on, Acts, does_act, asks_nothing, EndsIn, WithKey, WithCode}
use Rattle.mb_model.specs.machine.LayerEvents.{Outcome, takes_calls}
use Rattle.mb_model.specs.machine.Refusals.{refusal_reply}
use Rattle.mb_model.specs.memories.Valid.{IsValidState}
use Rattle.mb_model.specs.owners.Layers.{Runnable}
use Rattle.mb_model.specs.owners.Regions.{region_of, with_region}
use Rattle.mb_model_lemmas.proofs.DemandLemmas.{with_secrets}
use Rattle.mb_model_lemmas.proofs.ValidSteps.{demands_valid}
use Rattle.mb_device_regions.specs.declared.acting.Acted.{Acted}
use Rattle.mb_device_regions.specs.Demands.{secrets_after_all}
use Rattle.mb_device_regions.specs.Runs.{AreSeen, EndsAs, IsActed, IsNotActed, is_no_action, is_unmet, HasActed, HasFailed, ends_badly, asks_badly}
use Rattle.mb_region.specs.Regions.{IsRegionSlot}
use Rattle.mb_device_regions.proofs.Demanded.{born_in, met_state, demands_met}

abbrev pub call_of : ℕ → Option ℕ → List ℕ → Call
call_of L key input = record { layer = L; key = key; input = input }

-- ---- before the run

pub takes_none : (state : State) (call : Call) (code : Option (List ℕ)) → takes_calls code ≡ false → WithCode state call code (refusal_reply WrongCode, state)
takes_none state call None none = refl
takes_none state call (Some code) none = inl (none, refl)

-- code that takes calls
pub record IsCalled (code : Option (List ℕ)) : Type 0 where
  pub bytes : List ℕ
  pub is : code ≡ Some bytes
  pub begins : begins_with_call_word bytes ≡ true

pub takes_some : (code : Option (List ℕ)) → takes_calls code ≡ true → IsCalled code
takes_some None taken = absurd (grind (arith, taken))
takes_some (Some bytes) taken = record { bytes = bytes; is = refl; begins = taken }

pub with_key : (state : State) (call : Call) (code : Option (List ℕ)) (outcome : Outcome) (found : Result (Option RegionKey) Refusal) → (is : IsCalled code) → key_for call.key (region_of state call.layer) ≡ found
    → WithKey state call is.bytes found outcome → WithCode state call code outcome
with_key state call code outcome found is same with =
    subst (λ (c : Option (List ℕ)). WithCode state call c outcome) (sym is.is) (inr (is.begins, subst (λ (k : Result (Option RegionKey) Refusal). WithKey state call is.bytes k outcome) (sym same) with))

pub key_refused : (state : State) (call : Call) (code : Option (List ℕ)) (refusal : Refusal) → IsCalled code → key_for call.key (region_of state call.layer) ≡ Err refusal
    → WithCode state call code (refusal_reply refusal, state)
key_refused state call code refusal is found = with_key state call code _ (Err refusal) is found refl

-- ---- what is seen

-- layer 3 sees nothing of region 2
unseen_two : (layers : Layers) (two other three : Region) (region : ℕ) → readable_secrets layers 3 two three region ≡ readable_secrets layers 3 other three region
unseen_two layers two other three region = by (is_readable layers 3 region) refl
  where
    by : (b : Bool) → is_readable layers 3 region ≡ b → (if b then Some (if region == 2 then two.secrets else three.secrets) else None) ≡ (if b then Some (if region == 2 then other.secrets else three.secrets) else None)
    by false is = refl
    by true is = ap (λ (c : Bool). Some (if c then two.secrets else three.secrets)) (not_two is) ∙ ap (λ (c : Bool). Some (if c then other.secrets else three.secrets)) (sym (not_two is))
      where
        not_two : is_readable layers 3 region ≡ true → (region == 2) ≡ false
        not_two readable = grind (arith, readable)

pub sees_as_two : (layer : ℕ) (layers : Layers) (own above two three : Region) → AreSeen layer own (Some above) two three → readable_secrets layers layer own above ≡ readable_secrets layers layer two three
sees_as_two layer layers own above two three seen = ap (λ (r : Region). readable_secrets layers layer r above) seen.1 ∙ ap (λ (r : Region). readable_secrets layers layer two r) seen.2

pub sees_as_three : (layer : ℕ) (layers : Layers) (own two three : Region) → AreSeen layer own None two three → readable_secrets layers layer own own ≡ readable_secrets layers layer two three
sees_as_three layer layers own two three seen =
    subst (λ (n : ℕ). readable_secrets layers n own own ≡ readable_secrets layers n two three) (sym seen.0)
    (fun_ext (λ region. unseen_two layers own two own region) ∙ ap (λ (r : Region). readable_secrets layers 3 two r) seen.1)

-- ---- once it has run

-- what a run with the secrets of the state comes to
abbrev pub seen_in : State → ℕ → ℕ → Option (List Secret)
seen_in state L = readable_secrets state.layers L state.two state.three

ends_unhalted : (state : State) (L : ℕ) (signer : Option RegionKey) (input : List ℕ) (ending : AppEnd) (output : List ℕ) → EndsAs false ending output → EndsIn state L signer input ending (refusal_reply RunFailed, state)
ends_unhalted state L signer input (end.Halted steps emitted) output ends = absurd ends
ends_unhalted state L signer input (end.Trap cause place emitted) output ends = refl
ends_unhalted state L signer input (end.OutOfSteps emitted) output ends = refl

ends_halted : (state : State) (L : ℕ) (signer : Option RegionKey) (input : List ℕ) (outcome : Outcome) (ending : AppEnd) (output : List ℕ) → EndsAs true ending output → Acts state L signer input output outcome
    → EndsIn state L signer input ending outcome
ends_halted state L signer input outcome (end.Halted steps emitted) output ends acts = subst (λ (xs : List ℕ). Acts state L signer input xs outcome) ends acts
ends_halted state L signer input outcome (end.Trap cause place emitted) output ends acts = absurd ends
ends_halted state L signer input outcome (end.OutOfSteps emitted) output ends acts = absurd ends

-- the demands of an action, in the state
acts_met : (state : State) (L : ℕ) (signer : Option RegionKey) (input output : List ℕ) (action : Action) (number : ℕ) (met : Option (List Secret)) → IsRegionSlot L → number ≡ born_in state
    → Spells action_format output action → secrets_after_all number action.demands (region_of state L).secrets ≡ met
    → Acts state L signer input output (act_on L signer input action.answer state (met_state state L met))
acts_met state L signer input output action number met which same spelled is =
    does_act action spelled
    (ap (λ (after : Option State). act_on L signer input action.answer state after)
    (sym (demands_met L action.demands which state ∙ ap (λ (n : ℕ). met_state state L (secrets_after_all n action.demands (region_of state L).secrets)) (sym same) ∙ ap (met_state state L) is)))

acts_not : (state : State) (L : ℕ) (signer : Option RegionKey) (input output : List ℕ) (number : ℕ) → IsRegionSlot L → number ≡ born_in state → IsNotActed number output (region_of state L).secrets
    → Acts state L signer input output (refusal_reply RunFailed, state)
acts_not state L signer input output number which same (is_no_action none) = asks_nothing none refl
acts_not state L signer input output number which same (is_unmet action spelled unmet) = acts_met state L signer input output action number None which same spelled unmet

-- the region that code asked for, in the state
asked_region : (state : State) (L number : ℕ) (output : List ℕ) (acted : Acted) → IsActed number output (region_of state L) acted → with_secrets state L acted.region.secrets ≡ with_region state L acted.region
asked_region state L number output acted is = ap (λ (keys : List RegionKey). with_region state L (record { secrets = acted.region.secrets; keys = keys })) (sym is.keys)

acts_so : (state : State) (L : ℕ) (signer : Option RegionKey) (input output : List ℕ) (number : ℕ) (acted : Acted) → IsRegionSlot L → number ≡ born_in state → IsActed number output (region_of state L) acted
    → Acts state L signer input output (answer_by L signer input acted.answer state (with_region state L acted.region))
acts_so state L signer input output number acted which same is =
    subst (λ (answer : List ℕ). Acts state L signer input output (answer_by L signer input answer state (with_region state L acted.region))) (sym is.answer)
    (subst (λ (done : State). Acts state L signer input output (answer_by L signer input is.action.answer state done)) (asked_region state L number output acted is)
    (acts_met state L signer input output is.action number (Some acted.region.secrets) which same is.spelled is.met))

pub run_failed : (state : State) (call : Call) (code : Option (List ℕ)) (signer : Option RegionKey) (number : ℕ) → IsRegionSlot call.layer → (is : IsCalled code) → key_for call.key (region_of state call.layer) ≡ Ok signer
    → number ≡ born_in state → HasFailed is.bytes call.input (seen_in state call.layer) number (region_of state call.layer) → WithCode state call code (refusal_reply RunFailed, state)
run_failed state call code signer number which is found same (ends_badly output ended) =
    with_key state call code _ (Ok signer) is found (record { ending = ended.ending; run = ended.run; ends = ends_unhalted state call.layer signer call.input ended.ending output ended.ends })
run_failed state call code signer number which is found same (asks_badly output ended not) =
    with_key state call code _ (Ok signer) is found (record {
      ending = ended.ending;
      run = ended.run;
      ends = ends_halted state call.layer signer call.input _ ended.ending output ended.ends (acts_not state call.layer signer call.input output number which same not);
    })

pub run_acted : (state : State) (call : Call) (code : Option (List ℕ)) (signer : Option RegionKey) (number : ℕ) (acted : Acted) → IsRegionSlot call.layer → (is : IsCalled code) → key_for call.key (region_of state call.layer) ≡ Ok signer
    → number ≡ born_in state → HasActed is.bytes call.input (seen_in state call.layer) number (region_of state call.layer) acted
    → WithCode state call code (answer_by call.layer signer call.input acted.answer state (with_region state call.layer acted.region))
run_acted state call code signer number acted which is found same has =
    with_key state call code _ (Ok signer) is found (record {
      ending = has.ended.ending;
      run = has.ended.run;
      ends = ends_halted state call.layer signer call.input _ has.ended.ending has.output has.ended.ends (acts_so state call.layer signer call.input has.output number acted which same has.is);
    })

-- a device can have the state
pub acted_valid : (state : State) (L number : ℕ) (output : List ℕ) (acted : Acted) → IsRegionSlot L → number ≡ born_in state → IsActed number output (region_of state L) acted → Runnable state.layers L → IsValidState state
    → IsValidState (with_region state L acted.region)
acted_valid state L number output acted which same is runs valid =
    subst IsValidState (asked_region state L number output acted is)
    (demands_valid L is.action.demands state (with_secrets state L acted.region.secrets) runs valid
    (demands_met L is.action.demands which state ∙ ap (λ (n : ℕ). met_state state L (secrets_after_all n is.action.demands (region_of state L).secrets)) (sym same) ∙ ap (met_state state L) is.met)).0
