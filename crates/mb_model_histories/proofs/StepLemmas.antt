-- What a step comes to: an order is obeyed, or all but the regions is kept and the answer is not `done`.
use Rattle.std.proofs.Common.{◌≡◌, ℕ, ◌+◌, List, inl, inr, length, Option, None, Some, Bool, true, false, refl, sym, ap, ◌∙◌, subst, arith}
use Rattle.std.specs.Prelude.{◌⊎◌, Result, Ok, Err, not, nat_lt, nat_le, ◌&&◌, ◌||◌, find, if◌then◌else◌}
use Rattle.std.specs.List.{list_any}
use Rattle.mb_model.specs.declared.event.Event.{Event}
use Rattle.mb_model.specs.declared.event.Event.TheVariants as event
use Rattle.mb_model.specs.declared.order.Order.{Order}
use Rattle.mb_model.specs.declared.region.RegionKey.{RegionKey}
use Rattle.mb_model.specs.declared.region.Secret.{Secret}
use Rattle.mb_model.specs.declared.reply.Reply.{Reply}
use Rattle.mb_model.specs.declared.reply.Reply.TheVariants as reply
use Rattle.mb_model.specs.declared.reply.Refusal.{Refusal}
use Rattle.mb_model.specs.declared.reply.Refusal.TheVariants as refused
use Rattle.mb_model.specs.declared.reply.Refusal.TheVariants.{WrongPhase, WrongLayer, WrongCode, BadText}
use Rattle.mb_model.specs.declared.state.State.{State}
use Rattle.mb_model.specs.owners.Layers.{is_runnable}
use Rattle.mb_model.specs.machine.LayerEvents.{Outcome, code_in, takes_calls, on_region, has_name, has_number, value_reply, put_event, get_event, drop_event, sign_with, sign_event}
use Rattle.mb_model.specs.chains.Listing.{is_done}
use Rattle.mb_model.specs.machine.Machine.{Phase, off, dead, ratchet, World, Told, boot_event, status_of, running_state, running_state_in, status_event, go_event, region_event, CommandStep, CallTold, Machine, Step, machine_step, lacks_memory, loses_power}
use Rattle.mb_model.specs.machine.OrderStep.{OrderStep, spells_none, fails_check, is_obeyed}
use Rattle.mb_model.specs.machine.Refusals.{refusal_reply}
use Rattle.mb_model.specs.owners.Regions.{region_of}
use Rattle.mb_model.specs.machine.Calls.{Call, answer_by}
use Rattle.mb_model_lemmas.proofs.CallLemmas.{IsAnswered, IsRefusedCall, AnswersAt, on_layer_comes}
use Rattle.mb_model_lemmas.proofs.DemandLemmas.{ChangesSecrets, demands_change}
use Rattle.mb_model_runs.proofs.KeptByRuns.{with_one_use}
use Rattle.mb_model_lemmas.proofs.RefusalLemmas.{awake_state}
use Rattle.mb_model_histories.specs.ObeyedOrders.{ObeysAt, KeepsAllButRegions}

-- a live state comes of a live one, of which it keeps all but the regions
abbrev pub Keeps : Option State → Option State → Type 0
Keeps before None = Unit {0}
Keeps None (Some after) = ⊥
Keeps (Some before) (Some after) = KeepsAllButRegions before after

keeps_same : (o : Option State) → Keeps o o
keeps_same None = tt
keeps_same (Some state) = refl

-- what a step comes to
pub data ComesTo (here : World) (this : Event) (answer : Reply) (next : World) : Type 0 where
  keeps : Keeps here.state next.state → is_done answer ≡ false → ComesTo here this answer next
  obeys : (order : Order) → ObeysAt here this next order → ComesTo here this answer next

-- ---- what layers do

-- the outcome keeps all but the regions, and is not the reply `done`
abbrev Undone : State → Outcome → Type 0
Undone state outcome = KeepsAllButRegions state outcome.1 × (is_done outcome.0 ≡ false)

either_undone : (state : State) (b : Bool) (x y : Outcome) → Undone state x → Undone state y → Undone state (if b then x else y)
either_undone state true x y first second = first
either_undone state false x y first second = second

put_undone : (L : ℕ) (name value : List ℕ) (state : State) → Undone state (put_event L name value state)
unfolding put_event
put_undone L name value state =
    either_undone state (not (list_any (has_name name) (region_of state L).secrets) && nat_le 22 (length (region_of state L).secrets)) _ _ (refl, refl) (refl, refl)

value_undone : (secret : Option Secret) → is_done (value_reply secret) ≡ false
value_undone None = refl
value_undone (Some secret) = refl

get_undone : (L : ℕ) (name : List ℕ) (state : State) → Undone state (get_event L name state)
unfolding get_event
get_undone L name state = (refl, value_undone (find (has_name name) (region_of state L).secrets))

drop_undone : (L : ℕ) (name : List ℕ) (state : State) → Undone state (drop_event L name state)
unfolding drop_event
drop_undone L name state = either_undone state (list_any (has_name name) (region_of state L).secrets) _ _ (refl, refl) (refl, refl)

sign_with_undone : (L : ℕ) (key : Option RegionKey) (message : List ℕ) (state : State) → Undone state (sign_with L key message state)
sign_with_undone L None message state = (refl, refl)
sign_with_undone L (Some key) message state = either_undone state (nat_le 32 key.uses) _ _ (refl, refl) (refl, refl)

sign_undone : (L number : ℕ) (message : List ℕ) (state : State) → Undone state (sign_event L number message state)
unfolding sign_event
sign_undone L number message state = sign_with_undone L (find (has_number number) (region_of state L).keys) message state

-- ---- what is told

abbrev ToldUndone : World → Told → Type 0
ToldUndone here told = Keeps here.state told.1.state × (is_done told.0 ≡ false)

told_either : (here : World) (b : Bool) (x y : Told) → ToldUndone here x → ToldUndone here y → ToldUndone here (if b then x else y)
told_either here true x y first second = first
told_either here false x y first second = second

region_undone : (here : World) (L : ℕ) (does : State → Outcome) (on : Result (ℕ × State) Refusal) → running_state_in here ≡ on
    → ((state : State) → Undone state (does state)) → ToldUndone here (region_event here L does on)
region_undone here L does (Err refusal) is each = (keeps_same here.state, refl)
region_undone here L does (Ok on) is each =
    let after : Outcome = on_region on.0 L does on.1 in
    let undone : Undone on.1 after = either_undone on.1 (nat_lt L on.0 || not (is_runnable on.1.layers L)) (refusal_reply WrongLayer, on.1) _ (refl, refl)
    (either_undone on.1 (takes_calls (code_in on.1.codes L)) (refusal_reply WrongCode, on.1) (does on.1) (refl, refl) (each on.1)) in
    (subst (λ (o : Option State). Keeps o (Some after.1)) (sym (awake_state here.phase here.state on is)) undone.0, undone.1)

boot_undone : (here : World) (phase : Phase) (state : Option State) → ToldUndone here (boot_event here phase state)
boot_undone here off (Some state) = (keeps_same here.state, refl)
boot_undone here off None = (keeps_same here.state, refl)
boot_undone here dead state = (keeps_same here.state, refl)
boot_undone here (ratchet r) state = (keeps_same here.state, refl)

status_undone : (here : World) (on : Result (ℕ × State) Refusal) → ToldUndone here (status_event here on)
unfolding status_of
status_undone here (Err refusal) = (keeps_same here.state, refl)
status_undone here (Ok on) = (keeps_same here.state, refl)

go_undone : (here : World) (on : Result (ℕ × State) Refusal) → ToldUndone here (go_event here on)
go_undone here (Err refusal) = (keeps_same here.state, refl)
go_undone here (Ok on) =
    let stays : Keeps here.state here.state = keeps_same here.state in
    told_either here (nat_lt 2 on.0) (refusal_reply WrongPhase, here) _ (stays, refl)
    (told_either here (is_runnable on.1.layers (on.0 + 1)) (reply.At (on.0 + 1), record here { phase = ratchet (on.0 + 1) }) (refusal_reply WrongLayer, here)
    (stays, refl) (stays, refl))

-- ---- the step

-- the world after it is one by which all but the regions is kept
kept_in : (here : World) (this : Event) (answer : Reply) (next other : World) → next ≡ other → Keeps here.state other.state → is_done answer ≡ false → ComesTo here this answer next
kept_in here this answer next other same kept undone = keeps (subst (λ (w : World). Keeps here.state w.state) (sym same) kept) undone

of_told : (here : World) (this : Event) (answer : Reply) (next : World) (told : Told) → ◌≡◌ {A = Told} (answer, next) told → ToldUndone here told → ComesTo here this answer next
of_told here this answer next told e undone =
    kept_in here this answer next told.1 (ap (λ (t : Told). t.1) e) undone.0 (ap (λ (t : Told). is_done t.0) e ∙ undone.1)

pub awake_phase : (phase : Phase) (state : Option State) (on : ℕ × State) → running_state phase state ≡ Ok on → phase ≡ ratchet on.0
awake_phase off state on e = absurd (grind (arith, e))
awake_phase dead state on e = absurd (grind (arith, e))
awake_phase (ratchet r) None on e = absurd (grind (arith, e))
awake_phase (ratchet r) (Some state) on e =
    ap ratchet (ap (λ (x : Result (ℕ × State) Refusal). elim x [ Ok y ↦ y.0 | Err refusal ↦ r ]) e)

-- the state that an order step leaves unchanged
order_left : (here : World) (text draw : List ℕ) (on : ℕ × State) (answer : Reply) (after : State) (next : World) (refusal : Refusal) → here.state ≡ Some on.1
    → next ≡ record here { state = Some after } → after ≡ on.1 → answer ≡ refusal_reply refusal → ComesTo here (event.Order text draw) answer next
order_left here text draw on answer after next refusal was same stays told =
    kept_in here (event.Order text draw) answer next (record here { state = Some after }) same
    (subst (λ (o : Option State). Keeps o (Some after)) (sym was) (subst (λ (s : State). KeepsAllButRegions on.1 s) (sym stays) refl))
    (ap is_done told)

order_comes : (here : World) (text draw : List ℕ) (on : ℕ × State) (answer : Reply) (after : State) (next : World) → running_state_in here ≡ Ok on → on.0 ≡ 1
    → next ≡ record here { state = Some after } → OrderStep on.1 text draw answer after → ComesTo here (event.Order text draw) answer next
order_comes here text draw on answer after next is first same (spells_none p) = order_left here text draw on answer after next BadText (awake_state here.phase here.state on is) same p.stays p.answered
order_comes here text draw on answer after next is first same (fails_check p) = order_left here text draw on answer after next (refused.Order p.refusal) (awake_state here.phase here.state on is) same p.stays p.answered
order_comes here text draw on answer after next is first same (is_obeyed p) = obeys p.order (record {
  text = text;
  draw = draw;
  before = on.1;
  given = refl;
  running = awake_phase here.phase here.state on is ∙ ap ratchet first;
  was = awake_state here.phase here.state on is;
  spelled = p.spelled;
  passes = p.passes;
  is = ap (λ (w : World). w.state) same ∙ ap Some p.follows;
})

command_comes : (here : World) (text draw : List ℕ) (on : Result (ℕ × State) Refusal) (answer : Reply) (next : World) → running_state_in here ≡ on
    → CommandStep here text draw on answer next → ComesTo here (event.Order text draw) answer next
command_comes here text draw (Err refusal) answer next is x = kept_in here _ answer next here x.1 (keeps_same here.state) (ap is_done x.0)
command_comes here text draw (Ok on) answer next is (inl x) = order_comes here text draw on answer x.1.0 next is x.0 x.1.2 x.1.1
command_comes here text draw (Ok on) answer next is (inr x) = kept_in here _ answer next here x.2 (keeps_same here.state) (ap is_done x.1)

-- a call that is answered has changed its region
answered_undone : (call : Call) (state : State) (outcome : Outcome) → IsAnswered state call outcome → Undone state outcome
answered_undone call state outcome is =
    subst (Undone state) (sym is.comes) (by is.key (demands_change call.layer is.action.demands state is.done is.met))
  where
    by : (key : Option RegionKey) → ChangesSecrets call.layer state is.done → Undone state (answer_by call.layer key call.input is.action.answer state is.done)
    by None changed = (subst (KeepsAllButRegions state) (sym changed.1) refl, refl)
    by (Some key) changed = (subst (λ (s : State). KeepsAllButRegions state (with_one_use s call.layer key.number)) (sym changed.1) refl, refl)

call_comes : (here : World) (this : Event) (call : Call) (on : Result (ℕ × State) Refusal) (answer : Reply) (next : World) → running_state_in here ≡ on
    → CallTold here call on answer next → ComesTo here this answer next
call_comes here this call (Err refusal) answer next is x = kept_in here this answer next here x.1 (keeps_same here.state) (ap is_done x.0)
call_comes here this call (Ok on) answer next is (outcome, at, told, follows) =
    let undone : Undone on.1 outcome = by (on_layer_comes on.0 call on.1 outcome at) in
    kept_in here this answer next (record here { state = Some outcome.1 }) follows
    (subst (λ (o : Option State). Keeps o (Some outcome.1)) (sym (awake_state here.phase here.state on is)) undone.0) (ap is_done told ∙ undone.1)
  where
    by : AnswersAt on.0 call on.1 outcome ⊎ IsRefusedCall on.1 outcome → Undone on.1 outcome
    by (inl answers) = answered_undone call on.1 outcome answers.is
    by (inr refused) = (subst (KeepsAllButRegions on.1) (sym refused.1) refl, ap is_done refused.0.1)

machine_comes : (here : World) (this : Event) (answer : Reply) (next : World) → Machine here this answer next → ComesTo here this answer next
machine_comes here event.Boot answer next x = of_told here _ answer next (boot_event here here.phase here.state) x (boot_undone here here.phase here.state)
machine_comes here event.Off answer next x = kept_in here _ answer next (record here { phase = off }) x.1 (keeps_same here.state) (ap is_done x.0)
machine_comes here event.Tamper answer next x = kept_in here _ answer next (record here { phase = off; state = None }) x.1 tt (ap is_done x.0)
machine_comes here (event.Cut count tear) answer next x = kept_in here _ answer next (record here { armed = true }) x.1 (keeps_same here.state) (ap is_done x.0)
machine_comes here event.Status answer next x = of_told here _ answer next (status_event here (running_state_in here)) x (status_undone here (running_state_in here))
machine_comes here (event.Order text draw) answer next x = command_comes here text draw (running_state_in here) answer next refl x
machine_comes here event.Go answer next x = of_told here _ answer next (go_event here (running_state_in here)) x (go_undone here (running_state_in here))
machine_comes here (event.Put L name value) answer next x =
    of_told here _ answer next (region_event here L (put_event L name value) (running_state_in here)) x (region_undone here L (put_event L name value) (running_state_in here) refl (put_undone L name value))
machine_comes here (event.Get L name) answer next x =
    of_told here _ answer next (region_event here L (get_event L name) (running_state_in here)) x (region_undone here L (get_event L name) (running_state_in here) refl (get_undone L name))
machine_comes here (event.Drop L name) answer next x =
    of_told here _ answer next (region_event here L (drop_event L name) (running_state_in here)) x (region_undone here L (drop_event L name) (running_state_in here) refl (drop_undone L name))
machine_comes here (event.Sign L key message) answer next x =
    of_told here _ answer next (region_event here L (sign_event L key message) (running_state_in here)) x (region_undone here L (sign_event L key message) (running_state_in here) refl (sign_undone L key message))
machine_comes here (event.Call L key input) answer next x = call_comes here _ _ (running_state_in here) answer next refl x

-- an order that was obeyed in another world, whose state is left here
pub obeyed_there : (here : World) (this : Event) (whole next : World) (order : Order) → next.state ≡ whole.state → ObeysAt here this whole order → ObeysAt here this next order
obeyed_there here this whole next order same by = record {
  text = by.text;
  draw = by.draw;
  before = by.before;
  given = by.given;
  running = by.running;
  was = by.was;
  spelled = by.spelled;
  passes = by.passes;
  is = same ∙ by.is;
}

cut_short : (here : World) (this : Event) (told answer : Reply) (whole next : World) → next.state ≡ whole.state → is_done answer ≡ false
    → ComesTo here this told whole → ComesTo here this answer next
cut_short here this told answer whole next same undone (keeps kept was) = keeps (subst (Keeps here.state) (sym same) kept) undone
cut_short here this told answer whole next same undone (obeys order by) = obeys order (obeyed_there here this whole next order same by)

pub step_comes : (here : World) (this : Event) (answer : Reply) (next : World) → Step here this answer next → ComesTo here this answer next
step_comes here this answer next (machine_step x) = machine_comes here this answer next x
step_comes here this answer next (lacks_memory p) = kept_in here this answer next here p.stays (keeps_same here.state) (ap is_done p.answered)
step_comes here this answer next (loses_power p) =
    let left : next.state ≡ p.state = ap (λ (w : World). w.state) p.follows in
    let undone : is_done answer ≡ false = ap is_done p.answered in
    elim (p.counts) [
      | inl before ↦ keeps (subst (Keeps here.state) (sym (left ∙ before)) (keeps_same here.state)) undone
      | inr after ↦ cut_short here this p.told answer p.whole next (left ∙ after) undone (machine_comes here this p.told p.whole p.machine)
    ]
