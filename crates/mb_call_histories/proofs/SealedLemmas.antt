-- The region of code that takes calls changes by calls of it and by orders alone, and no `get` tells of it.
use Rattle.std.proofs.Common.{◌≡◌, ◌⊎◌, ℕ, List, [], length, inl, inr, Option, None, Some, Bool, true, false, refl, sym, ap, ◌∙◌, subst, arith}
use Rattle.std.specs.Prelude.{Result, Ok, Err, not, nat_lt, ◌||◌, if◌then◌else◌}
use Rattle.std.proofs.lemmas.Option.{same_Some}
use Rattle.mb_model.specs.declared.event.Event.{Event}
use Rattle.mb_model.specs.declared.event.Event.TheVariants as event
use Rattle.mb_model.specs.declared.region.Secret.{Secret}
use Rattle.mb_model.specs.declared.reply.Refusal.{Refusal}
use Rattle.mb_model.specs.declared.reply.Refusal.TheVariants.{WrongLayer, WrongCode}
use Rattle.mb_model.specs.declared.reply.Reply.{Reply}
use Rattle.mb_model.specs.declared.reply.Reply.TheVariants as reply
use Rattle.mb_model.specs.declared.state.State.{State}
use Rattle.mb_model.specs.machine.LayerEvents.{Outcome, code_in, takes_calls, with_secret, put_event, get_event, drop_event, sign_event}
use Rattle.mb_model.specs.machine.Machine.{ratchet, World, Told, running_state_in, region_event, Machine, Step, machine_step, lacks_memory, loses_power}
use Rattle.mb_model.specs.machine.Refusals.{refusal_reply}
use Rattle.mb_model.specs.owners.Layers.{is_runnable}
use Rattle.mb_model.specs.owners.Regions.{empty_region, region_of}
use Rattle.mb_model_lemmas.proofs.RefusalLemmas.{awake_state}
use Rattle.mb_model_histories.specs.ObeyedOrders.{layer_asked, IsSealed}
use Rattle.mb_model_histories.proofs.PowerLemmas.{put_in_empty}
use Rattle.mb_model_histories.proofs.RegionEventLemmas.{regions_change_by_their_layer}
use Rattle.mb_call_histories.specs.CallChangeLaws.{SealedRegionsChangeByCalls, SealedRegionsAnswerNothing, OpenRegionsAreAnybodys}

-- ---- events of a sealed region

-- the event is refused, and leaves the state
record IsRefusedHere (here : World) (told : Told) : Type 0 where
  number : ℕ
  refused : told.0 ≡ reply.Refused number
  stays : told.1.state ≡ here.state

either_refused : (here : World) (state : State) (b taken : Bool) (x : Outcome) → here.state ≡ Some state → taken ≡ true
    → let outcome : Outcome = if b then (refusal_reply WrongLayer, state) else if taken then (refusal_reply WrongCode, state) else x in
    IsRefusedHere here (outcome.0, record here { state = Some outcome.1 })
either_refused here state true taken x was is = record { number = _; refused = refl; stays = sym was }
either_refused here state false true x was is = record { number = _; refused = refl; stays = sym was }
either_refused here state false false x was is = absurd (grind (arith, is))

sealed_refuses : (here : World) (layer : ℕ) (does : State → Outcome) (on : Result (ℕ × State) Refusal) (before : State) → running_state_in here ≡ on → here.state ≡ Some before → IsSealed before layer
    → IsRefusedHere here (region_event here layer does on)
sealed_refuses here layer does (Err refusal) before is was seals = record { number = _; refused = refl; stays = refl }
sealed_refuses here layer does (Ok on) before is was seals =
    let awake : here.state ≡ Some on.1 = awake_state here.phase here.state on is in
    let one : before ≡ on.1 = same_Some before on.1 (sym was ∙ awake) in
    either_refused here on.1 (nat_lt layer on.0 || not (is_runnable on.1.layers layer)) (takes_calls (code_in on.1.codes layer)) (does on.1) awake (subst (λ (s : State). IsSealed s layer) one seals)

-- so it leaves the state, wherever power fails
module _ (here : World) (this : Event) (layer : ℕ) (does : State → Outcome) (before : State) (was : here.state ≡ Some before) (seals : IsSealed before layer)
    (told : (answer : Reply) (next : World) → Machine here this answer next → ◌≡◌ {A = Told} (answer, next) (region_event here layer does (running_state_in here))) where
  machine_stays : (answer : Reply) (next : World) → Machine here this answer next → next.state ≡ here.state
  machine_stays answer next x = ap (λ (t : Told). t.1.state) (told answer next x) ∙ (sealed_refuses here layer does (running_state_in here) before refl was seals).stays

  step_stays : (answer : Reply) (next : World) → Step here this answer next → next.state ≡ here.state
  step_stays answer next (machine_step x) = machine_stays answer next x
  step_stays answer next (lacks_memory p) = ap (λ (w : World). w.state) p.stays
  step_stays answer next (loses_power p) = ap (λ (w : World). w.state) p.follows ∙ elim (p.counts) [
    | inl same ↦ same
    | inr after ↦ after ∙ machine_stays p.told p.whole p.machine
  ]

  region_stays : (answer : Reply) (next : World) (after : State) → Step here this answer next → next.state ≡ Some after → region_of after layer ≡ region_of before layer
  region_stays answer next after step is = ap (λ (s : State). region_of s layer) (same_Some after before (sym is ∙ step_stays answer next step ∙ was))

asked_same : (a b : ℕ) → ◌≡◌ {A = Option ℕ} (Some a) (Some b) → a ≡ b
asked_same a b e = cc

acted : (here next : World) (this : Event) (answer : Reply) (before after : State) (layer : ℕ) → Step here this answer next → here.state ≡ Some before → next.state ≡ Some after → IsSealed before layer
    → layer_asked this ≡ Some layer → (region_of after layer ≡ region_of before layer) ⊎ ((key : Option ℕ) × (input : List ℕ) × (this ≡ event.Call layer key input))
acted here next (event.Put other name value) answer before after layer step was is seals asked =
    let one : other ≡ layer = asked_same other layer asked in
    inl (region_stays here (event.Put layer name value) layer (put_event layer name value) before was seals (λ a n x. x) answer next after
    (subst (λ l. Step here (event.Put l name value) answer next) one step) is)
acted here next (event.Drop other name) answer before after layer step was is seals asked =
    let one : other ≡ layer = asked_same other layer asked in
    inl (region_stays here (event.Drop layer name) layer (drop_event layer name) before was seals (λ a n x. x) answer next after
    (subst (λ l. Step here (event.Drop l name) answer next) one step) is)
acted here next (event.Sign other key message) answer before after layer step was is seals asked =
    let one : other ≡ layer = asked_same other layer asked in
    inl (region_stays here (event.Sign layer key message) layer (sign_event layer key message) before was seals (λ a n x. x) answer next after
    (subst (λ l. Step here (event.Sign l key message) answer next) one step) is)
acted here next (event.Call other key input) answer before after layer step was is seals asked = inr (key, input, ap (λ l. event.Call l key input) (asked_same other layer asked))
acted here next event.Boot answer before after layer step was is seals asked = absurd (grind (arith, asked))
acted here next event.Off answer before after layer step was is seals asked = absurd (grind (arith, asked))
acted here next event.Tamper answer before after layer step was is seals asked = absurd (grind (arith, asked))
acted here next event.Status answer before after layer step was is seals asked = absurd (grind (arith, asked))
acted here next event.Go answer before after layer step was is seals asked = absurd (grind (arith, asked))
acted here next (event.Cut count tear) answer before after layer step was is seals asked = absurd (grind (arith, asked))
acted here next (event.Order text draw) answer before after layer step was is seals asked = absurd (grind (arith, asked))
acted here next (event.Get other name) answer before after layer step was is seals asked = absurd (grind (arith, asked))

pub sealed_regions_change_by_calls : SealedRegionsChangeByCalls
sealed_regions_change_by_calls here next this answer before after layer step was is seals =
    elim (regions_change_by_their_layer here next this answer before after layer step was is) [
      | inl same ↦ inl same
      | inr (inl acts) ↦ elim (acted here next this answer before after layer step was is seals acts.asked) [
        | inl same ↦ inl same
        | inr call ↦ inr (inl call)
      ]
      | inr (inr obeyed) ↦ inr (inr obeyed)
    ]

-- ---- what is told

value_refused : (value : List ℕ) (number : ℕ) (answer : Reply) → reply.Value value ≡ answer → answer ≡ reply.Refused number → ⊥
value_refused value number answer is refused = grind (arith, is ∙ refused)

pub sealed_regions_answer_nothing : SealedRegionsAnswerNothing
sealed_regions_answer_nothing here next layer name value before was seals (machine_step x) =
    let refused = sealed_refuses here layer (get_event layer name) (running_state_in here) before refl was seals in
    value_refused value refused.number _ (ap (λ (t : Told). t.0) x) refused.refused
sealed_regions_answer_nothing here next layer name value before was seals (lacks_memory p) = let clash : reply.Value value ≡ reply.NoMemory = p.answered in absurd (grind (arith, clash))
sealed_regions_answer_nothing here next layer name value before was seals (loses_power p) = let clash : reply.Value value ≡ reply.Stopped = p.answered in absurd (grind (arith, clash))

-- ---- an open region

read_as : (b : Bool) (one other : List Secret) → b ≡ true → ◌≡◌ {A = Option (List Secret)} (if b then Some one else None) (if b then Some other else None) → one ≡ other
read_as true one other is e = same_Some one other e
read_as false one other is e = absurd (grind (arith, is))

pub open_regions_are_anybodys : OpenRegionsAreAnybodys
unfolding put_event with_secret
open_regions_are_anybodys state name value runs unsealed =
    let before : State = record state { two = empty_region } in
    let world : World = record { state = Some before; phase = ratchet 1; armed = false } in
    let after : State = (put_event 2 name value before).1 in (
      after,
      ap {B = Told} (λ (outcome : Outcome). (outcome.0, record world { state = Some outcome.1 }))
          (sym (put_in_empty (is_runnable state.layers 2) (takes_calls (code_in state.codes 2)) state name value runs unsealed)),
      λ same. absurd (omega (arith, ap length (read_as (is_runnable state.layers 2) after.two.secrets [] runs same))),
    )
