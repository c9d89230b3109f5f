-- A region changes only at an event of its own layer, or at an order that is obeyed.
use Rattle.std.proofs.Common.{◌≡◌, ◌≢◌, ◌⊎◌, ℕ, List, inl, inr, length, Option, None, Some, Bool, true, false, refl, sym, ap, ◌∙◌, subst, arith}
use Rattle.std.specs.Prelude.{◌==◌, Result, Ok, Err, not, nat_lt, nat_le, ◌&&◌, ◌||◌, find, if◌then◌else◌}
use Rattle.std.specs.List.{list_any}
use Rattle.std.proofs.lemmas.Option.{same_Some}
use Rattle.mb_model.specs.declared.event.Event.{Event}
use Rattle.mb_model.specs.declared.event.Event.TheVariants as event
use Rattle.mb_model.specs.declared.order.Order.{Order}
use Rattle.mb_model.specs.declared.region.Region.{Region}
use Rattle.mb_model.specs.declared.region.RegionKey.{RegionKey}
use Rattle.mb_model.specs.declared.reply.Refusal.{Refusal}
use Rattle.mb_model.specs.declared.reply.Refusal.TheVariants.{WrongLayer, WrongCode}
use Rattle.mb_model.specs.declared.reply.Reply.{Reply}
use Rattle.mb_model.specs.declared.state.State.{State}
use Rattle.mb_model.specs.machine.LayerEvents.{Outcome, code_in, takes_calls, on_region, has_name, has_number, put_event, get_event, drop_event, sign_with, sign_event}
use Rattle.mb_model.specs.owners.Layers.{is_runnable}
use Rattle.mb_model.specs.machine.Machine.{off, ratchet, World, Told, boot_event, running_state_in, status_event, go_event, region_event, CommandStep, CallTold, Machine, Step, machine_step, lacks_memory, loses_power}
use Rattle.mb_model.specs.machine.OrderStep.{OrderStep, spells_none, fails_check, is_obeyed}
use Rattle.mb_model.specs.machine.Refusals.{refusal_reply}
use Rattle.mb_model.specs.owners.Regions.{region_of, with_region}
use Rattle.mb_model.specs.machine.Calls.{Call, answer_by}
use Rattle.mb_model_lemmas.proofs.CallLemmas.{IsAnswered, IsRefusedCall, AnswersAt, on_layer_comes}
use Rattle.mb_model_lemmas.proofs.DemandLemmas.{other_stays, demands_spare}
use Rattle.mb_model_lemmas.proofs.RefusalLemmas.{awake_state}
use Rattle.mb_model_lemmas.proofs.Splits.{none_is_some}
use Rattle.mb_model_memory.proofs.StorableSteps.{booted_state, status_state, gone_state}
use Rattle.mb_model_histories.specs.ObeyedOrders.{ObeysAt, layer_asked, ActsOnRegion}
use Rattle.mb_model_histories.specs.OwnerLaws.{RegionsChangeByTheirLayer}
use Rattle.mb_model_histories.proofs.StepLemmas.{awake_phase, obeyed_there}

-- ---- what layers do

-- what is done leaves the state, or replaces the region of this layer
abbrev Replaces : ℕ → State → State → Type 0
Replaces layer before after = (after ≡ before) ⊎ ((new : Region) × (after ≡ with_region before layer new))

either_replaces : (layer : ℕ) (before : State) (b : Bool) (x y : Outcome) → Replaces layer before x.1 → Replaces layer before y.1 → Replaces layer before (if b then x else y).1
either_replaces layer before true x y first second = first
either_replaces layer before false x y first second = second

put_replaces : (layer : ℕ) (name value : List ℕ) (state : State) → Replaces layer state (put_event layer name value state).1
unfolding put_event
put_replaces layer name value state =
    either_replaces layer state (not (list_any (has_name name) (region_of state layer).secrets) && nat_le 22 (length (region_of state layer).secrets)) _ _ (inl refl) (inr (_, refl))

get_quiet : (layer : ℕ) (name : List ℕ) (state : State) → (get_event layer name state).1 ≡ state
unfolding get_event
get_quiet layer name state = refl

drop_replaces : (layer : ℕ) (name : List ℕ) (state : State) → Replaces layer state (drop_event layer name state).1
unfolding drop_event
drop_replaces layer name state = either_replaces layer state (list_any (has_name name) (region_of state layer).secrets) _ _ (inr (_, refl)) (inl refl)

sign_with_replaces : (layer : ℕ) (key : Option RegionKey) (message : List ℕ) (state : State) → Replaces layer state (sign_with layer key message state).1
sign_with_replaces layer None message state = inl refl
sign_with_replaces layer (Some key) message state = either_replaces layer state (nat_le 32 key.uses) _ _ (inl refl) (inr (_, refl))

sign_replaces : (layer number : ℕ) (message : List ℕ) (state : State) → Replaces layer state (sign_event layer number message state).1
unfolding sign_event
sign_replaces layer number message state = sign_with_replaces layer (find (has_number number) (region_of state layer).keys) message state

-- ---- the step

-- what becomes of the region of a layer
abbrev Regional : World → Event → ℕ → Option State → Type 0
Regional here this layer after = (before now : State) → here.state ≡ Some before → after ≡ Some now → (region_of now layer ≡ region_of before layer) ⊎ ActsOnRegion here this layer

regional_same : (here : World) (this : Event) (layer : ℕ) (after : Option State) → after ≡ here.state → Regional here this layer after
regional_same here this layer after same before now was is = inl (ap (λ (s : State). region_of s layer) (same_Some now before (sym is ∙ same ∙ was)))

-- the event may be answered: no layer above is in control, and the layer may run
acts : (here : World) (this : Event) (layer : ℕ) (on : ℕ × State) (past runs : Bool) → layer_asked this ≡ Some layer → running_state_in here ≡ Ok on → nat_lt layer on.0 ≡ past → is_runnable on.1.layers layer ≡ runs
    → (past ≡ false) → (runs ≡ true) → ActsOnRegion here this layer
acts here this layer on past runs asked is is_past is_runs not_past may = record {
  state = on.1;
  level = on.0;
  asked = asked;
  was = awake_state here.phase here.state on is;
  running = awake_phase here.phase here.state on is;
  in_control = grind (arith, is_past ∙ not_past);
  runs = is_runs ∙ may;
}

same_or_not : (layer other : ℕ) → (layer ≡ other) ⊎ (layer ≢ other)
same_or_not layer other = (elim (layer == other) as (λ b. (layer == other) ≡ b → (layer ≡ other) ⊎ (layer ≢ other)) [
  | true ↦ λ is. inl (grind (arith, is))
  | false ↦ λ is. inr (λ equal. absurd (grind (arith, is, equal)))
]) refl

-- where the event may be answered, another layer's region stays
answered : (here : World) (this : Event) (layer other : ℕ) (on : ℕ × State) (past runs taken : Bool) (does : State → Outcome) → layer_asked this ≡ Some other → running_state_in here ≡ Ok on
    → nat_lt other on.0 ≡ past → is_runnable on.1.layers other ≡ runs → Replaces other on.1 (does on.1).1
    → (region_of (if past || not runs then (refusal_reply WrongLayer, on.1) else if taken then (refusal_reply WrongCode, on.1) else does on.1).1 layer ≡ region_of on.1 layer)
    ⊎ ActsOnRegion here this layer
answered here this layer other on true runs taken does asked is is_past is_runs replaces = inl refl
answered here this layer other on false false taken does asked is is_past is_runs replaces = inl refl
answered here this layer other on false true true does asked is is_past is_runs replaces = inl refl
answered here this layer other on false true false does asked is is_past is_runs (inl same) = inl (ap (λ (s : State). region_of s layer) same)
answered here this layer other on false true false does asked is is_past is_runs (inr (new, same)) =
    elim (same_or_not layer other) [
      | inl equal ↦ inr (subst (ActsOnRegion here this) (sym equal) (acts here this other on false true asked is is_past is_runs refl refl))
      | inr differ ↦ inl (ap (λ (s : State). region_of s layer) same ∙ other_stays on.1 layer other new differ)
    ]

region_regional : (here : World) (this : Event) (layer other : ℕ) (does : State → Outcome) (on : Result (ℕ × State) Refusal) → layer_asked this ≡ Some other → running_state_in here ≡ on
    → ((state : State) → Replaces other state (does state).1) → Regional here this layer (region_event here other does on).1.state
region_regional here this layer other does (Err refusal) asked is each = regional_same here this layer here.state refl
region_regional here this layer other does (Ok on) asked is each = λ before now was now_is.
    let one : on.1 ≡ before = same_Some on.1 before (sym (awake_state here.phase here.state on is) ∙ was) in
    let last : (on_region on.0 other does on.1).1 ≡ now = same_Some (on_region on.0 other does on.1).1 now now_is in
    subst (λ (s : State). (region_of now layer ≡ region_of s layer) ⊎ ActsOnRegion here this layer) one
    (subst (λ (s : State). (region_of s layer ≡ region_of on.1 layer) ⊎ ActsOnRegion here this layer) last
    (answered here this layer other on (nat_lt other on.0) (is_runnable on.1.layers other) (takes_calls (code_in on.1.codes other)) does asked is refl refl (each on.1)))

-- what leaves the state, leaves each region
quiet_state : (here : World) (other : ℕ) (does : State → Outcome) (on : Result (ℕ × State) Refusal) → running_state_in here ≡ on → ((state : State) → (does state).1 ≡ state)
    → (region_event here other does on).1.state ≡ here.state
quiet_state here other does (Err refusal) is each = refl
quiet_state here other does (Ok on) is each =
    ap Some (quiet (nat_lt other on.0 || not (is_runnable on.1.layers other)) (takes_calls (code_in on.1.codes other))) ∙ sym (awake_state here.phase here.state on is)
  where
    quiet : (b c : Bool) → (if b then (refusal_reply WrongLayer, on.1) else if c then (refusal_reply WrongCode, on.1) else does on.1).1 ≡ on.1
    quiet true c = refl
    quiet false true = refl
    quiet false false = each on.1

-- a call that is answered leaves the region of each other layer
pub answer_spares : (call : Call) (state : State) (outcome : Outcome) → IsAnswered state call outcome → (layer : ℕ) → layer ≢ call.layer → region_of outcome.1 layer ≡ region_of state layer
answer_spares call state outcome is layer differ =
    ap (λ (o : Outcome). region_of o.1 layer) is.comes ∙ by is.key ∙ (demands_spare call.layer is.action.demands state is.done is.met).others layer differ
  where
    by : (key : Option RegionKey) → region_of (answer_by call.layer key call.input is.action.answer state is.done).1 layer ≡ region_of is.done layer
    by None = refl
    by (Some key) = other_stays is.done layer call.layer _ differ

call_regional : (here : World) (this : Event) (layer : ℕ) (call : Call) (on : Result (ℕ × State) Refusal) (answer : Reply) (next : World) → layer_asked this ≡ Some call.layer
    → running_state_in here ≡ on → CallTold here call on answer next → Regional here this layer next.state
call_regional here this layer call (Err refusal) answer next asked is x = regional_same here this layer next.state (ap (λ (w : World). w.state) x.1)
call_regional here this layer call (Ok on) answer next asked is (outcome, at, told, follows) = λ before now was now_is.
    let one : on.1 ≡ before = same_Some on.1 before (sym (awake_state here.phase here.state on is) ∙ was) in
    let last : outcome.1 ≡ now = same_Some outcome.1 now (sym (ap (λ (w : World). w.state) follows) ∙ now_is) in
    subst (λ (s : State). (region_of now layer ≡ region_of s layer) ⊎ ActsOnRegion here this layer) one
    (subst (λ (s : State). (region_of s layer ≡ region_of on.1 layer) ⊎ ActsOnRegion here this layer) last (by (on_layer_comes on.0 call on.1 outcome at)))
  where
    by : AnswersAt on.0 call on.1 outcome ⊎ IsRefusedCall on.1 outcome → (region_of outcome.1 layer ≡ region_of on.1 layer) ⊎ ActsOnRegion here this layer
    by (inl answers) = elim (same_or_not layer call.layer) [
      | inl equal ↦ inr (subst (ActsOnRegion here this) (sym equal) (acts here this call.layer on false true asked is answers.in_control answers.runs refl refl))
      | inr differ ↦ inl (answer_spares call on.1 outcome answers.is layer differ)
    ]
    by (inr refused) = inl (ap (λ (s : State). region_of s layer) refused.1)

-- what a step leaves of a region
abbrev Leaves : World → Event → ℕ → World → Type 0
Leaves here this layer next = Regional here this layer next.state ⊎ ((order : Order) × ObeysAt here this next order)

told_regional : (here : World) (this : Event) (layer : ℕ) (answer : Reply) (next : World) (told : Told) → ◌≡◌ {A = Told} (answer, next) told → Regional here this layer told.1.state → Leaves here this layer next
told_regional here this layer answer next told e regional = inl (subst (Regional here this layer) (sym (ap (λ (t : Told). t.1.state) e)) regional)

told_same : (here : World) (this : Event) (layer : ℕ) (answer : Reply) (next : World) (told : Told) → ◌≡◌ {A = Told} (answer, next) told → told.1.state ≡ here.state → Leaves here this layer next
told_same here this layer answer next told e same = told_regional here this layer answer next told e (regional_same here this layer told.1.state same)

left_same : (here : World) (this : Event) (layer : ℕ) (next other : World) → next ≡ other → other.state ≡ here.state → Leaves here this layer next
left_same here this layer next other is same = inl (regional_same here this layer next.state (ap (λ (w : World). w.state) is ∙ same))

order_leaves : (here : World) (text draw : List ℕ) (layer : ℕ) (on : ℕ × State) (answer : Reply) (after : State) (next : World) → running_state_in here ≡ Ok on → on.0 ≡ 1
    → next ≡ record here { state = Some after } → OrderStep on.1 text draw answer after → Leaves here (event.Order text draw) layer next
order_leaves here text draw layer on answer after next is first same (spells_none p) =
    left_same here _ layer next (record here { state = Some after }) same (ap Some p.stays ∙ sym (awake_state here.phase here.state on is))
order_leaves here text draw layer on answer after next is first same (fails_check p) =
    left_same here _ layer next (record here { state = Some after }) same (ap Some p.stays ∙ sym (awake_state here.phase here.state on is))
order_leaves here text draw layer on answer after next is first same (is_obeyed p) = inr (
  p.order,
  record {
    text = text;
    draw = draw;
    before = on.1;
    given = refl;
    running = awake_phase here.phase here.state on is ∙ ap ratchet first;
    was = awake_state here.phase here.state on is;
    spelled = p.spelled;
    passes = p.passes;
    is = ap (λ (w : World). w.state) same ∙ ap Some p.follows;
  },
)

command_leaves : (here : World) (text draw : List ℕ) (layer : ℕ) (on : Result (ℕ × State) Refusal) (answer : Reply) (next : World) → running_state_in here ≡ on
    → CommandStep here text draw on answer next → Leaves here (event.Order text draw) layer next
command_leaves here text draw layer (Err refusal) answer next is x = left_same here _ layer next here x.1 refl
command_leaves here text draw layer (Ok on) answer next is (inl x) = order_leaves here text draw layer on answer x.1.0 next is x.0 x.1.2 x.1.1
command_leaves here text draw layer (Ok on) answer next is (inr x) = left_same here _ layer next here x.2 refl

no_state : (here : World) (this : Event) (layer : ℕ) → Regional here this layer None
no_state here this layer = λ before now was is. absurd (none_is_some None now refl is)

machine_leaves : (here : World) (this : Event) (answer : Reply) (next : World) (layer : ℕ) → Machine here this answer next → Leaves here this layer next
machine_leaves here event.Boot answer next layer x = told_same here _ layer answer next (boot_event here here.phase here.state) x (booted_state here here.phase here.state)
machine_leaves here event.Off answer next layer x = left_same here _ layer next (record here { phase = off }) x.1 refl
machine_leaves here event.Tamper answer next layer x = inl (subst (Regional here event.Tamper layer) (sym (ap (λ (w : World). w.state) x.1)) (no_state here event.Tamper layer))
machine_leaves here (event.Cut count tear) answer next layer x = left_same here _ layer next (record here { armed = true }) x.1 refl
machine_leaves here event.Status answer next layer x = told_same here _ layer answer next (status_event here (running_state_in here)) x (status_state here (running_state_in here))
machine_leaves here (event.Order text draw) answer next layer x = command_leaves here text draw layer (running_state_in here) answer next refl x
machine_leaves here event.Go answer next layer x = told_same here _ layer answer next (go_event here (running_state_in here)) x (gone_state here (running_state_in here))
machine_leaves here (event.Put asked name value) answer next layer x =
    told_regional here _ layer answer next (region_event here asked (put_event asked name value) (running_state_in here)) x
    (region_regional here (event.Put asked name value) layer asked (put_event asked name value) (running_state_in here) refl refl (put_replaces asked name value))
machine_leaves here (event.Get asked name) answer next layer x =
    told_same here _ layer answer next (region_event here asked (get_event asked name) (running_state_in here)) x
    (quiet_state here asked (get_event asked name) (running_state_in here) refl (get_quiet asked name))
machine_leaves here (event.Drop asked name) answer next layer x =
    told_regional here _ layer answer next (region_event here asked (drop_event asked name) (running_state_in here)) x
    (region_regional here (event.Drop asked name) layer asked (drop_event asked name) (running_state_in here) refl refl (drop_replaces asked name))
machine_leaves here (event.Sign asked key message) answer next layer x =
    told_regional here _ layer answer next (region_event here asked (sign_event asked key message) (running_state_in here)) x
    (region_regional here (event.Sign asked key message) layer asked (sign_event asked key message) (running_state_in here) refl refl (sign_replaces asked key message))
machine_leaves here (event.Call asked key input) answer next layer x = inl (call_regional here (event.Call asked key input) layer _ (running_state_in here) answer next refl refl x)

cut_leaves : (here : World) (this : Event) (whole next : World) (layer : ℕ) → next.state ≡ whole.state → Leaves here this layer whole → Leaves here this layer next
cut_leaves here this whole next layer same (inl regional) = inl (subst (Regional here this layer) (sym same) regional)
cut_leaves here this whole next layer same (inr (order, by)) = inr (order, obeyed_there here this whole next order same by)

step_leaves : (here : World) (this : Event) (answer : Reply) (next : World) (layer : ℕ) → Step here this answer next → Leaves here this layer next
step_leaves here this answer next layer (machine_step x) = machine_leaves here this answer next layer x
step_leaves here this answer next layer (lacks_memory p) = left_same here this layer next here p.stays refl
step_leaves here this answer next layer (loses_power p) =
    let left : next.state ≡ p.state = ap (λ (w : World). w.state) p.follows in
    elim (p.counts) [
      | inl before ↦ inl (regional_same here this layer next.state (left ∙ before))
      | inr after ↦ cut_leaves here this p.whole next layer (left ∙ after) (machine_leaves here this p.told p.whole layer p.machine)
    ]

pub regions_change_by_their_layer : RegionsChangeByTheirLayer
regions_change_by_their_layer here next this answer before after layer step was is =
    elim (step_leaves here this answer next layer step) [
      | inl regional ↦ elim (regional before after was is) [
        | inl same ↦ inl same
        | inr acts ↦ inr (inl acts)
      ]
      | inr obeyed ↦ inr (inr obeyed)
    ]
