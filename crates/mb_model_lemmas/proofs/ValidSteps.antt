-- Each step of the machine leads from a state that a device can have to such a state.
use Rattle.std.proofs.Common.{◌≡◌, ◌≤◌, ◌<◌, ℕ, zero, suc, ◌+◌, List, [], ◌∷◌, inl, inr, length, Option, None, Some, Bool, true, false, refl, sym, ap, subst, ◌∙◌, arith}
use Rattle.std.specs.Prelude.{◌⊎◌, ◌==◌, ◌&&◌, not, nat_lt, All, IsTrue, Result, Ok, Err, if◌then◌else◌}
use Rattle.std.proofs.lemmas.List.Elements.{All-nil, All-cons}
use Rattle.mb_format.specs.Combinators.{items}
use Rattle.mb_model.specs.declared.order.Act.{Act}
use Rattle.mb_model.specs.declared.order.Act.TheVariants as act
use Rattle.mb_model.specs.declared.order.ChangeKind.{ChangeKind}
use Rattle.mb_model.specs.declared.order.ChangeKind.TheVariants.{Establish, Surrender, Load, Emergency}
use Rattle.mb_model.specs.declared.order.Countersignature.{Countersignature}
use Rattle.mb_model.specs.declared.order.Order.{Order}
use Rattle.mb_model.specs.declared.order.Target.{Target}
use Rattle.mb_model.specs.declared.entry.Entry.{Entry}
use Rattle.mb_model.specs.declared.entry.Entry.TheVariants.{Succession}
use Rattle.mb_model.specs.declared.event.Event.{Event}
use Rattle.mb_model.specs.declared.event.Event.TheVariants as event
use Rattle.mb_model.specs.declared.event.Answered.{Answered}
use Rattle.mb_model.specs.declared.reply.Reply.{Reply}
use Rattle.mb_model.specs.declared.reply.Reply.TheVariants as reply
use Rattle.mb_model.specs.declared.state.State.{State}
use Rattle.mb_model.specs.records.OrderFormat.{Climb, climb_after, countersignature_format, countersignatures_format, order_format}
use Rattle.mb_model.specs.owners.Layers.{is_runnable}
use Rattle.mb_model.specs.owners.Rules.{kind_of, change_of, renews, Condition}
use Rattle.mb_model.specs.owners.Log.{entries_of, uses_of_device_key}
use Rattle.mb_model.specs.signatures.Signing.{public_of}
use Rattle.mb_model.specs.declared.reply.Refusal.{Refusal}
use Rattle.mb_model.specs.declared.reply.Refusal.TheVariants.{WrongPhase, WrongLayer}
use Rattle.mb_model.specs.machine.Refusals.{refusal_reply}
use Rattle.mb_model.specs.owners.Regions.{empty_region}
use Rattle.mb_model.specs.declared.region.Region.{Region}
use Rattle.mb_model.specs.owners.Regions.{region_of}
use Rattle.mb_model.specs.machine.OrderChecks.{IsCountersigned, needs_succession, RegionHasRoom, region_keys, Passes}
use Rattle.mb_model.specs.machine.OrderChecks.{view_of}
use Rattle.mb_model.specs.machine.OrderEffects.{next_key, state_after_succession, state_after_act, state_after_order}
use Rattle.mb_model.specs.machine.OrderStep.{OrderStep, spells_none, fails_check, is_obeyed}
use Rattle.mb_model.specs.machine.LayerEvents.{Outcome, has_name, is_full_for, put_event, get_event, drop_event, sign_event}
use Rattle.mb_model.specs.machine.Machine.{Phase, off, dead, ratchet, World, Told, boot_event, running_state, running_state_in, status_event, go_event, region_event, CommandStep, CallTold, Machine, Step, machine_step, lacks_memory, loses_power, Run}
use Rattle.mb_model.specs.memories.Valid.{IsValidState, Valid}
use Rattle.mb_model.proofs.Passed.{passed}
use Rattle.mb_model_lemmas.proofs.LogLemmas.{used-push}
use Rattle.mb_model_lemmas.specs.RegionLaws.{KeepsStatesValid}
use Rattle.std.specs.List.{list_any}
use Rattle.std.proofs.lemmas.Option.{same_Some}
use Rattle.mb_model.specs.declared.region.RegionKey.{RegionKey}
use Rattle.mb_model.specs.owners.Layers.{Runnable}
use Rattle.mb_model.specs.machine.Actions.{Demand, to_keep, to_drop}
use Rattle.mb_model.specs.machine.Calls.{Call, refuses, demand_outcome, after_demands, answer_by}
use Rattle.mb_model_lemmas.proofs.CallLemmas.{IsAnswered, IsRefusedCall, AnswersAt, on_layer_comes}
use Rattle.mb_model_lemmas.proofs.ValidStates.{put_keeps, get_keeps, drop_keeps, sign_keeps, put_valid, drop_valid, use_valid}
use Rattle.mb_model_lemmas.proofs.ValidLogs.{entries_of-signed}
use Rattle.mb_model_lemmas.proofs.ValidOrders.{IsAbove, succeeded_valid, changed_valid, keyed_valid}

-- ---- the countersignatures of an order that is spelled

-- each of some countersignatures in a row is of a layer above the one before the first
climbing : (n : ℕ) (climb : Climb) (k : ℕ) (cs : List Countersignature) → k ≤ climb.below
    → (items countersignature_format climb_after n climb).Allowed cs → All (λ by. k < by.layer) cs
unfolding items
climbing zero climb k cs low allowed = subst (All (λ (by : Countersignature). k < by.layer)) (sym allowed) (All-nil (λ (by : Countersignature). k < by.layer))
climbing (suc n) climb k [] low allowed = absurd allowed
climbing (suc n) climb k (c ∷ cs) low allowed =
    let P : Countersignature → Type 0 = λ by. k < by.layer in
    let above : climb.below + 1 ≤ c.layer = allowed.0.0.0 in
    All-cons P c cs (omega (arith, above, low)) (climbing n (climb_after climb c) k cs (omega (arith, above, low)) allowed.1)

above_by : (a : Act) (layer : ℕ) (targets : List Target) (cs : List Countersignature)
    → (countersignatures_format (record { layer = layer; targets = targets; act = a })).Allowed cs → All (IsAbove (change_of (kind_of a)) layer) cs
unfolding countersignatures_format
above_by (act.Establish owner trust) layer targets cs allowed = λ i d within. absurd (omega (arith, within, allowed.0.1))
above_by act.Surrender layer targets cs allowed = λ i d within. absurd (omega (arith, within, allowed.0.1))
above_by (act.NewKey kind) layer targets cs allowed = λ i d within. absurd (omega (arith, within, allowed.0.1))
above_by (act.Load payload) layer targets cs allowed =
    λ i d within. (refl, climbing (length cs) (record { below = layer; left = length cs }) layer cs (omega arith) allowed.1 i d within)
above_by (act.Emergency payload) layer targets cs allowed =
    λ i d within. (refl, climbing (length cs) (record { below = layer; left = length cs }) layer cs (omega arith) allowed.1 i d within)

pub all_above : (order : Order) → order_format.Allowed order → All (IsAbove (change_of (kind_of order.act)) order.layer) order.countersignatures
unfolding order_format
all_above order allowed = above_by order.act order.layer order.targets order.countersignatures allowed.1.1

-- ---- orders

-- a succession leaves the layers and the regions, and the new key has signed nothing
over_succession_condition : (state : State) (draw : List ℕ) (kind : Option ChangeKind) (k : ℕ) → Condition state.layers kind k → Condition (state_after_succession state draw).layers kind k
unfolding state_after_succession
over_succession_condition state draw kind k is = is

over_succession_signed : (state : State) (draw : List ℕ) (order : Order) → All (IsCountersigned (view_of state) order) order.countersignatures → All (IsCountersigned (view_of (state_after_succession state draw)) order) order.countersignatures
unfolding state_after_succession
over_succession_signed state draw order is = is

keys_if : (a b : Bool) (x y : Region) → (if a then length x.keys else if b then length y.keys else 0) ≡ length (if a then x else if b then y else empty_region).keys
keys_if true b x y = refl
keys_if false true x y = refl
keys_if false false x y = refl

-- the figures tell how many keys a region has
pub region_keys_are : (state : State) (L : ℕ) → region_keys (view_of state) L ≡ length (region_of state L).keys
region_keys_are state L = keys_if (L == 2) (L == 3) state.two state.three

over_succession_room : (state : State) (draw : List ℕ) (L : ℕ) (a : Act) → RegionHasRoom (view_of state) L a → RegionHasRoom (view_of (state_after_succession state draw)) L a
unfolding state_after_succession
over_succession_room state draw L (act.Establish owner trust) is = is
over_succession_room state draw L act.Surrender is = is
over_succession_room state draw L (act.Load payload) is = is
over_succession_room state draw L (act.Emergency payload) is = is
over_succession_room state draw L (act.NewKey kind) is = is

never : (n : ℕ) → n ≡ 31 → n ≡ 0 → ⊥
never n e f = omega (arith, e, f)

used_anew : (state : State) (draw : List ℕ) → uses_of_device_key (entries_of (state_after_succession state draw).log) ≡ 0
unfolding state_after_succession
used_anew state draw =
    let entry : Entry = Succession (length state.log) (public_of (next_key (view_of state) draw)) in
    ap uses_of_device_key (entries_of-signed state entry) ∙ used-push (entries_of state.log) entry

-- an order leads to a valid state, where the device key has an index for it
carried_by : (ready : State) (order : Order) (draw : List ℕ) (a : Act) → order.act ≡ a → IsValidState ready
    → Condition ready.layers (change_of (kind_of a)) order.layer → All (IsAbove (change_of (kind_of a)) order.layer) order.countersignatures
    → All (IsCountersigned (view_of ready) order) order.countersignatures
    → (uses_of_device_key (entries_of ready.log) ≡ 31 → IsTrue (renews (change_of (kind_of a)) order.layer))
    → RegionHasRoom (view_of ready) order.layer a
    → IsValidState (state_after_act ready order a draw)
carried_by ready order draw (act.Establish owner trust) is valid allowed above signed index room =
    changed_valid ready Establish order draw valid (record { kind_is = ap (λ (x : Act). change_of (kind_of x)) is; allowed = allowed; above = above; signed = signed; index = index })
carried_by ready order draw act.Surrender is valid allowed above signed index room =
    changed_valid ready Surrender order draw valid (record { kind_is = ap (λ (x : Act). change_of (kind_of x)) is; allowed = allowed; above = above; signed = signed; index = index })
carried_by ready order draw (act.Load payload) is valid allowed above signed index room =
    changed_valid ready Load order draw valid (record { kind_is = ap (λ (x : Act). change_of (kind_of x)) is; allowed = allowed; above = above; signed = signed; index = index })
carried_by ready order draw (act.Emergency payload) is valid allowed above signed index room =
    changed_valid ready Emergency order draw valid (record { kind_is = ap (λ (x : Act). change_of (kind_of x)) is; allowed = allowed; above = above; signed = signed; index = index })
carried_by ready order draw (act.NewKey kind) is valid allowed above signed index room =
    keyed_valid ready order.layer kind draw valid allowed (λ e. absurd (grind (arith, index e))) (subst (λ n. n < 8) (region_keys_are ready order.layer) room)

-- where a succession is needed, the last index is left, and else the order takes it
needed_last : (n : ℕ) (b : Bool) → ((n == 31) && not b) ≡ true → n ≡ 31
needed_last n true e = absurd (grind (arith, e))
needed_last n false e = grind (arith, e)

not_needed : (n : ℕ) (b : Bool) → ((n == 31) && not b) ≡ false → n ≡ 31 → IsTrue b
not_needed n true e last = refl
not_needed n false e last = absurd (grind (arith, e, last))

-- the order finds an index, and then is carried out
pub obeyed_valid : (state : State) (order : Order) (draw : List ℕ) → IsValidState state → order_format.Allowed order → Passes (view_of state) order
    → IsValidState (state_after_order state order draw)
unfolding state_after_order
obeyed_valid state order draw valid allowed passes =
    let above = all_above order allowed in
    (elim (needs_succession (view_of state) order) as (λ b. needs_succession (view_of state) order ≡ b → IsValidState (state_after_act (if b then state_after_succession state draw else state) order order.act draw)) [
      | true ↦ λ e.
          let last : uses_of_device_key (entries_of state.log) ≡ 31 = needed_last (uses_of_device_key (entries_of state.log)) (renews (change_of (kind_of order.act)) order.layer) e in
          carried_by (state_after_succession state draw) order draw order.act refl (succeeded_valid state draw valid last)
          (over_succession_condition state draw (change_of (kind_of order.act)) order.layer (passed passes).condition) above
          (over_succession_signed state draw order (passed passes).countersignatures)
          (λ f. absurd (never (uses_of_device_key (entries_of (state_after_succession state draw).log)) f (used_anew state draw)))
          (over_succession_room state draw order.layer order.act (passed passes).keys)
      | false ↦ λ e.
          carried_by state order draw order.act refl valid (passed passes).condition above (passed passes).countersignatures
          (not_needed (uses_of_device_key (entries_of state.log)) (renews (change_of (kind_of order.act)) order.layer) e) (passed passes).keys
    ]) refl

pub order_step_valid : (state : State) (text draw : List ℕ) (answer : Reply) (next : State) → IsValidState state → OrderStep state text draw answer next → IsValidState next
order_step_valid state text draw answer next valid (spells_none step) = subst IsValidState (sym step.stays) valid
order_step_valid state text draw answer next valid (fails_check step) = subst IsValidState (sym step.stays) valid
order_step_valid state text draw answer next valid (is_obeyed step) =
    subst IsValidState (sym step.follows) (obeyed_valid state step.order draw valid step.spelled.allowed step.passes)

-- ---- the machine

booted_valid : (world : World) (phase : Phase) (state : Option State) → Valid world.state → Valid (boot_event world phase state).1.state
booted_valid world off (Some state) valid = valid
booted_valid world off None valid = valid
booted_valid world dead state valid = valid
booted_valid world (ratchet r) state valid = valid

status_valid : (world : World) (on : Result (ℕ × State) Refusal) → Valid world.state → Valid (status_event world on).1.state
status_valid world (Err refusal) valid = valid
status_valid world (Ok on) valid = valid

go_on : (last runs : Bool) (world : World) (r : ℕ) → Valid world.state
    → Valid (let told : Told = if last then (refusal_reply WrongPhase, world) else if runs then (reply.At (r + 1), record world { phase = ratchet (r + 1) }) else (refusal_reply WrongLayer, world) in told).1.state
go_on true runs world r valid = valid
go_on false true world r valid = valid
go_on false false world r valid = valid

pub go_valid : (world : World) (on : Result (ℕ × State) Refusal) → Valid world.state → Valid (go_event world on).1.state
go_valid world (Err refusal) valid = valid
go_valid world (Ok on) valid = go_on (nat_lt 2 on.0) (is_runnable on.1.layers (on.0 + 1)) world on.0 valid

awake_valid : (world : World) → Valid world.state → (on : ℕ × State) → running_state world.phase world.state ≡ Ok on → IsValidState on.1
awake_valid world valid on e = awake_by world.phase world.state on valid e
  where
    awake_by : (phase : Phase) (state : Option State) (on : ℕ × State) → Valid state → running_state phase state ≡ Ok on → IsValidState on.1
    awake_by off state on valid e = absurd (grind (arith, e))
    awake_by dead state on valid e = absurd (grind (arith, e))
    awake_by (ratchet r) None on valid e = absurd (grind (arith, e))
    awake_by (ratchet r) (Some state) on valid e =
        let same : ◌≡◌ {A = ℕ × State} (r, state) on = cc in
        subst (λ (p : ℕ × State). IsValidState p.1) same valid

region_event_valid : (world : World) (L : ℕ) (event : State → Outcome) (on : Result (ℕ × State) Refusal) → running_state world.phase world.state ≡ on
    → KeepsStatesValid L event → Valid world.state → Valid (region_event world L event on).1.state
region_event_valid world L event (Err refusal) e keeps valid = valid
region_event_valid world L event (Ok on) e keeps valid = keeps on.1 on.0 (awake_valid world valid on e)

command_valid : (world : World) (text draw : List ℕ) (on : Result (ℕ × State) Refusal) (answer : Reply) (next : World) → running_state world.phase world.state ≡ on
    → Valid world.state → CommandStep world text draw on answer next → Valid next.state
command_valid world text draw (Err refusal) answer next e valid step = subst (λ (w : World). Valid w.state) (sym step.1) valid
command_valid world text draw (Ok on) answer next e valid (inl obeyed) =
    subst (λ (w : World). Valid w.state) (sym obeyed.1.2) (order_step_valid on.1 text draw answer obeyed.1.0 (awake_valid world valid on e) obeyed.1.1)
command_valid world text draw (Ok on) answer next e valid (inr late) = subst (λ (w : World). Valid w.state) (sym late.2) valid

-- what an event is told to come to is where it comes to
told_valid : (answer : Reply) (next : World) (told : Told) → ◌≡◌ {A = Told} (answer, next) told → Valid told.1.state → Valid next.state
told_valid answer next told e valid = subst (λ (t : Told). Valid t.1.state) (sym e) valid

either_layers : (b : Bool) (x y : Outcome) (state : State) → x.1.layers ≡ state.layers → y.1.layers ≡ state.layers → (if b then x else y).1.layers ≡ state.layers
either_layers true x y state first second = first
either_layers false x y state first second = second

pub unless_met : (b : Bool) (onwards : Option State) (done : State) → (if b then None else onwards) ≡ Some done → onwards ≡ Some done
unless_met true onwards done e = absurd (grind (arith, e))
unless_met false onwards done e = e

-- demands leave a valid state valid, and one use of a key does
demand_valid : (layer : ℕ) (demand : Demand) (state : State) → Runnable state.layers layer → IsValidState state → IsValidState (demand_outcome layer demand state).1
demand_valid layer (to_keep name value) state runs valid = put_valid layer name value state runs valid
demand_valid layer (to_drop name) state runs valid = drop_valid layer name state runs valid

same_layers : (layer : ℕ) (demand : Demand) (state : State) → (demand_outcome layer demand state).1.layers ≡ state.layers
unfolding put_event drop_event
same_layers layer (to_keep name value) state = either_layers (is_full_for name (region_of state layer)) _ _ state refl refl
same_layers layer (to_drop name) state = either_layers (list_any (has_name name) (region_of state layer).secrets) _ _ state refl refl

pub demands_valid : (layer : ℕ) (demands : List Demand) (state done : State) → Runnable state.layers layer → IsValidState state → after_demands layer demands state ≡ Some done
    → IsValidState done × Runnable done.layers layer
unfolding after_demands
demands_valid layer [] state done runs valid met =
    let same : state ≡ done = same_Some state done met in
    (subst IsValidState same valid, subst (λ (s : State). Runnable s.layers layer) same runs)
demands_valid layer (demand ∷ later) state done runs valid met =
    let outcome : Outcome = demand_outcome layer demand state in
    demands_valid layer later outcome.1 done (subst (λ l. Runnable l layer) (sym (same_layers layer demand state)) runs) (demand_valid layer demand state runs valid)
    (unless_met (refuses outcome.0) (after_demands layer later outcome.1) done met)

answered_valid : (call : Call) (state : State) (outcome : Outcome) (is : IsAnswered state call outcome) → Runnable state.layers call.layer → IsValidState state
    → (key : Option RegionKey) → is.key ≡ key → IsValidState outcome.1
answered_valid call state outcome is runs valid None same =
    subst IsValidState (sym (ap (λ (o : Outcome). o.1) is.comes ∙ ap (λ (k : Option RegionKey). (answer_by call.layer k call.input is.action.answer state is.done).1) same))
    (demands_valid call.layer is.action.demands state is.done runs valid is.met).0
answered_valid call state outcome is runs valid (Some key) same =
    let done = demands_valid call.layer is.action.demands state is.done runs valid is.met in
    subst IsValidState (sym (ap (λ (o : Outcome). o.1) is.comes ∙ ap (λ (k : Option RegionKey). (answer_by call.layer k call.input is.action.answer state is.done).1) same))
    (use_valid call.layer key.number is.done done.1 done.0)

told_state_valid : (world : World) (call : Call) (next : World) (on : ℕ × State) (outcome : Outcome) → running_state_in world ≡ Ok on → Valid world.state
    → AnswersAt on.0 call on.1 outcome ⊎ IsRefusedCall on.1 outcome → next ≡ record world { state = Some outcome.1 } → Valid next.state
told_state_valid world call next on outcome e valid (inl answers) follows =
    subst (λ (w : World). Valid w.state) (sym follows) (answered_valid call on.1 outcome answers.is answers.runs (awake_valid world valid on e) answers.is.key refl)
told_state_valid world call next on outcome e valid (inr refused) follows =
    subst (λ (w : World). Valid w.state) (sym follows) (subst IsValidState (sym refused.1) (awake_valid world valid on e))

call_valid : (world : World) (call : Call) (on : Result (ℕ × State) Refusal) (answer : Reply) (next : World) → running_state_in world ≡ on → Valid world.state
    → CallTold world call on answer next → Valid next.state
call_valid world call (Err refusal) answer next e valid x = subst (λ (w : World). Valid w.state) (sym x.1) valid
call_valid world call (Ok on) answer next e valid (outcome, at, told, follows) =
    told_state_valid world call next on outcome e valid (on_layer_comes on.0 call on.1 outcome at) follows

pub machine_valid : (world : World) (e : Event) (answer : Reply) (next : World) → Valid world.state → Machine world e answer next → Valid next.state
machine_valid world event.Boot answer next valid is = told_valid answer next _ is (booted_valid world world.phase world.state valid)
machine_valid world event.Off answer next valid is = subst (λ (w : World). Valid w.state) (sym is.1) valid
machine_valid world event.Tamper answer next valid is = subst (λ (w : World). Valid w.state) (sym is.1) tt
machine_valid world (event.Cut count tear) answer next valid is = subst (λ (w : World). Valid w.state) (sym is.1) valid
machine_valid world event.Status answer next valid is = told_valid answer next _ is (status_valid world (running_state_in world) valid)
machine_valid world (event.Order text draw) answer next valid is = command_valid world text draw (running_state_in world) answer next refl valid is
machine_valid world event.Go answer next valid is = told_valid answer next _ is (go_valid world (running_state_in world) valid)
machine_valid world (event.Put L name value) answer next valid is = told_valid answer next _ is (region_event_valid world L (put_event L name value) (running_state_in world) refl (put_keeps L name value) valid)
machine_valid world (event.Get L name) answer next valid is = told_valid answer next _ is (region_event_valid world L (get_event L name) (running_state_in world) refl (get_keeps L name) valid)
machine_valid world (event.Drop L name) answer next valid is = told_valid answer next _ is (region_event_valid world L (drop_event L name) (running_state_in world) refl (drop_keeps L name) valid)
machine_valid world (event.Sign L key message) answer next valid is = told_valid answer next _ is (region_event_valid world L (sign_event L key message) (running_state_in world) refl (sign_keeps L key message) valid)
machine_valid world (event.Call L key input) answer next valid is = call_valid world _ (running_state_in world) answer next refl valid is

-- each step leads from a valid state to a valid one
pub step_valid : (world : World) (e : Event) (answer : Reply) (next : World) → Valid world.state → Step world e answer next → Valid next.state
step_valid world e answer next valid (machine_step machine) = machine_valid world e answer next valid machine
step_valid world e answer next valid (lacks_memory lacks) = subst (λ (w : World). Valid w.state) (sym lacks.stays) valid
step_valid world e answer next valid (loses_power lost) =
    let left : Valid lost.state = elim (lost.counts) [
      | inl before ↦ subst Valid (sym before) valid
      | inr after ↦ subst Valid (sym after) (machine_valid world e lost.told lost.whole valid lost.machine)
    ] in
    subst (λ (w : World). Valid w.state) (sym lost.follows) left

-- and so does a run
pub run_valid : (world : World) (answered : List Answered) (next : World) → Valid world.state → Run world answered next → Valid next.state
run_valid world [] next valid same = subst (λ (w : World). Valid w.state) (sym same) valid
run_valid world (this ∷ rest) next valid run = run_valid run.0 rest next (step_valid world this.event this.reply run.0 valid run.1) run.2
