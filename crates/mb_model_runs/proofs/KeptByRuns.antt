-- What each step keeps, a run keeps; and what a step comes to that is answered by a statement.
use Rattle.std.proofs.Common.{◌≡◌, ◌⊎◌, ℕ, ◌+◌, List, [], ◌∷◌, inl, inr, length, Option, None, Some, Bool, true, false, refl, sym, ap, subst}
use Rattle.std.specs.Prelude.{Result, Ok, Err, not, nat_lt, nat_le, ◌&&◌, ◌||◌, find, if◌then◌else◌, All}
use Rattle.std.specs.List.{list_any}
use Rattle.std.proofs.lemmas.List.Elements.{All-nil, All-cons, All-weaker}
use Rattle.mb_model.specs.declared.event.Event.{Event}
use Rattle.mb_model.specs.declared.event.Event.TheVariants as event
use Rattle.mb_model.specs.declared.event.Answered.{Answered}
use Rattle.mb_model.specs.declared.order.Order.{Order}
use Rattle.mb_model.specs.declared.region.RegionKey.{RegionKey}
use Rattle.mb_model.specs.declared.region.Secret.{Secret}
use Rattle.mb_model.specs.declared.reply.Reply.{Reply}
use Rattle.mb_model.specs.declared.reply.Reply.TheVariants as reply
use Rattle.mb_model.specs.declared.state.State.{State}
use Rattle.mb_model.specs.owners.Layers.{is_runnable}
use Rattle.mb_model.specs.declared.reply.Refusal.{Refusal}
use Rattle.mb_model.specs.declared.reply.Refusal.TheVariants.{WrongPhase, WrongLayer, WrongCode}
use Rattle.mb_model.specs.machine.Refusals.{refusal_reply}
use Rattle.mb_model.specs.owners.Regions.{region_of, with_region}
use Rattle.mb_model.specs.machine.OrderEffects.{state_after_order}
use Rattle.mb_model.specs.machine.OrderStep.{OrderStep, spells_none, fails_check, is_obeyed}
use Rattle.mb_model.specs.machine.LayerEvents.{Outcome, on_region, has_name, has_number, with_use, put_event, get_event, drop_event, sign_with, sign_event, code_in, takes_calls}
use Rattle.mb_model.specs.machine.Calls.{Call, answer_by}
use Rattle.mb_model.specs.machine.Machine.{Phase, off, dead, ratchet, World, Told, boot_event, running_state_in, status_event, go_event, region_event, CallTold, CommandStep, Machine, Step, machine_step, lacks_memory, loses_power, Run}
use Rattle.mb_model_lemmas.proofs.CallLemmas.{IsAnswered, IsRefusedCall, AnswersAt, on_layer_comes}
use Rattle.mb_model_lemmas.proofs.DemandLemmas.{with_secrets, ChangesSecrets, demands_change}
use Rattle.mb_model_lemmas.proofs.RefusalLemmas.{awake_state}
use Rattle.mb_model.specs.machine.Runs.{worlds_of}

-- ---- what each step keeps

-- the state with one more use of a key of a region
abbrev pub with_one_use : State → ℕ → ℕ → State
with_one_use state L number = with_region state L (record (region_of state L) { keys = with_use number (region_of state L).keys })

-- A relation of states that holds wherever a step leads, where power holds.
pub record IsKept (R : Option State → Option State → Type 0) : Type 0 where
  pub same : (o : Option State) → R o o
  pub dies : (o : Option State) → R o None
  pub secrets : (state : State) (L : ℕ) (secrets : List Secret) → R (Some state) (Some (with_secrets state L secrets))
  pub used : (state : State) (L number : ℕ) → R (Some state) (Some (with_one_use state L number))
  pub called : (state : State) (L : ℕ) (secrets : List Secret) (number : ℕ) → R (Some state) (Some (with_one_use (with_secrets state L secrets) L number))
  pub order : (state : State) (order : Order) (draw : List ℕ) → R (Some state) (Some (state_after_order state order draw))

module _ (R : Option State → Option State → Type 0) (kept : IsKept R) where
  either_kept : (state : State) (b : Bool) (x y : Outcome) → R (Some state) (Some x.1) → R (Some state) (Some y.1) → R (Some state) (Some (if b then x else y).1)
  either_kept state true x y first second = first
  either_kept state false x y first second = second

  put_kept : (L : ℕ) (name value : List ℕ) (state : State) → R (Some state) (Some (put_event L name value state).1)
  unfolding put_event
  put_kept L name value state =
      either_kept state (not (list_any (has_name name) (region_of state L).secrets) && nat_le 22 (length (region_of state L).secrets)) _ _
      (kept.same (Some state)) (kept.secrets state L _)

  get_kept : (L : ℕ) (name : List ℕ) (state : State) → R (Some state) (Some (get_event L name state).1)
  unfolding get_event
  get_kept L name state = kept.same (Some state)

  drop_kept : (L : ℕ) (name : List ℕ) (state : State) → R (Some state) (Some (drop_event L name state).1)
  unfolding drop_event
  drop_kept L name state =
      either_kept state (list_any (has_name name) (region_of state L).secrets) _ _ (kept.secrets state L _) (kept.same (Some state))

  sign_with_kept : (L : ℕ) (key : Option RegionKey) (message : List ℕ) (state : State) → R (Some state) (Some (sign_with L key message state).1)
  sign_with_kept L None message state = kept.same (Some state)
  sign_with_kept L (Some key) message state =
      either_kept state (nat_le 32 key.uses) _ _ (kept.same (Some state)) (kept.used state L key.number)

  sign_kept : (L number : ℕ) (message : List ℕ) (state : State) → R (Some state) (Some (sign_event L number message state).1)
  unfolding sign_event
  sign_kept L number message state = sign_with_kept L (find (has_number number) (region_of state L).keys) message state

  region_kept : (world : World) (L : ℕ) (does : State → Outcome) (on : Result (ℕ × State) Refusal) → running_state_in world ≡ on
      → ((state : State) → R (Some state) (Some (does state).1)) → R world.state (region_event world L does on).1.state
  region_kept world L does (Err refusal) is each = kept.same world.state
  region_kept world L does (Ok on) is each =
      let after : Outcome = on_region on.0 L does on.1 in
      let from : R (Some on.1) (Some after.1) = either_kept on.1 (nat_lt L on.0 || not (is_runnable on.1.layers L)) (refusal_reply WrongLayer, on.1) _ (kept.same (Some on.1))
      (either_kept on.1 (takes_calls (code_in on.1.codes L)) (refusal_reply WrongCode, on.1) (does on.1) (kept.same (Some on.1)) (each on.1)) in
      subst (λ (o : Option State). R o (Some after.1)) (sym (awake_state world.phase world.state on is)) from

  order_kept : (state : State) (text draw : List ℕ) (answer : Reply) (next : State) → OrderStep state text draw answer next → R (Some state) (Some next)
  order_kept state text draw answer next (spells_none p) = subst (λ (s : State). R (Some state) (Some s)) (sym p.stays) (kept.same (Some state))
  order_kept state text draw answer next (fails_check p) = subst (λ (s : State). R (Some state) (Some s)) (sym p.stays) (kept.same (Some state))
  order_kept state text draw answer next (is_obeyed p) = subst (λ (s : State). R (Some state) (Some s)) (sym p.follows) (kept.order state p.order draw)

  -- the state of a world that is another by an equation
  of_same : (world next other : World) → next ≡ other → R world.state other.state → R world.state next.state
  of_same world next other same holds = subst (λ (w : World). R world.state w.state) (sym same) holds

  command_kept : (world : World) (text draw : List ℕ) (on : Result (ℕ × State) Refusal) (answer : Reply) (next : World) → running_state_in world ≡ on
      → CommandStep world text draw on answer next → R world.state next.state
  command_kept world text draw (Err refusal) answer next is x = of_same world next world x.1 (kept.same world.state)
  command_kept world text draw (Ok on) answer next is (inl x) =
      let from : R (Some on.1) (Some x.1.0) = order_kept on.1 text draw answer x.1.0 x.1.1 in
      of_same world next (record world { state = Some x.1.0 }) x.1.2
      (subst (λ (o : Option State). R o (Some x.1.0)) (sym (awake_state world.phase world.state on is)) from)
  command_kept world text draw (Ok on) answer next is (inr x) = of_same world next world x.2 (kept.same world.state)

  -- what code asked for is done, and maybe a key has signed
  answered_kept : (call : Call) (state : State) (outcome : Outcome) → IsAnswered state call outcome → R (Some state) (Some outcome.1)
  answered_kept call state outcome is =
      let changed = demands_change call.layer is.action.demands state is.done is.met in
      subst (λ (o : Outcome). R (Some state) (Some o.1)) (sym is.comes) (by is.key changed)
    where
      by : (key : Option RegionKey) → ChangesSecrets call.layer state is.done → R (Some state) (Some (answer_by call.layer key call.input is.action.answer state is.done).1)
      by None changed = subst (λ (s : State). R (Some state) (Some s)) (sym changed.1) (kept.secrets state call.layer changed.0)
      by (Some key) changed =
          subst (λ (s : State). R (Some state) (Some (with_one_use s call.layer key.number))) (sym changed.1) (kept.called state call.layer changed.0 key.number)

  call_kept : (world : World) (call : Call) (on : Result (ℕ × State) Refusal) (answer : Reply) (next : World) → running_state_in world ≡ on
      → CallTold world call on answer next → R world.state next.state
  call_kept world call (Err refusal) answer next is x = of_same world next world x.1 (kept.same world.state)
  call_kept world call (Ok on) answer next is (outcome, at, told, follows) =
      of_same world next (record world { state = Some outcome.1 }) follows
      (subst (λ (o : Option State). R o (Some outcome.1)) (sym (awake_state world.phase world.state on is)) (by (on_layer_comes on.0 call on.1 outcome at)))
    where
      by : AnswersAt on.0 call on.1 outcome ⊎ IsRefusedCall on.1 outcome → R (Some on.1) (Some outcome.1)
      by (inl answers) = answered_kept call on.1 outcome answers.is
      by (inr refused) = subst (λ (s : State). R (Some on.1) (Some s)) (sym refused.1) (kept.same (Some on.1))

  boot_kept : (world : World) (phase : Phase) (state : Option State) → R world.state (boot_event world phase state).1.state
  boot_kept world off (Some state) = kept.same world.state
  boot_kept world off None = kept.same world.state
  boot_kept world dead state = kept.same world.state
  boot_kept world (ratchet r) state = kept.same world.state

  status_kept : (world : World) (on : Result (ℕ × State) Refusal) → R world.state (status_event world on).1.state
  status_kept world (Err refusal) = kept.same world.state
  status_kept world (Ok on) = kept.same world.state

  either_told : (world : World) (b : Bool) (x y : Told) → R world.state x.1.state → R world.state y.1.state → R world.state (if b then x else y).1.state
  either_told world true x y first second = first
  either_told world false x y first second = second

  go_kept : (world : World) (on : Result (ℕ × State) Refusal) → R world.state (go_event world on).1.state
  go_kept world (Err refusal) = kept.same world.state
  go_kept world (Ok on) =
      either_told world (nat_lt 2 on.0) (refusal_reply WrongPhase, world) _ (kept.same world.state)
      (either_told world (is_runnable on.1.layers (on.0 + 1)) (reply.At (on.0 + 1), record world { phase = ratchet (on.0 + 1) }) (refusal_reply WrongLayer, world)
      (kept.same world.state) (kept.same world.state))

  told_kept : (world : World) (answer : Reply) (next : World) (told : Told) → ◌≡◌ {A = Told} (answer, next) told → R world.state told.1.state → R world.state next.state
  told_kept world answer next told e holds = of_same world next told.1 (ap (λ (t : Told). t.1) e) holds

  machine_kept : (world : World) (given : Event) (answer : Reply) (next : World) → Machine world given answer next → R world.state next.state
  machine_kept world event.Boot answer next x = told_kept world answer next (boot_event world world.phase world.state) x (boot_kept world world.phase world.state)
  machine_kept world event.Off answer next x = of_same world next (record world { phase = off }) x.1 (kept.same world.state)
  machine_kept world event.Tamper answer next x = of_same world next (record world { phase = off; state = None }) x.1 (kept.dies world.state)
  machine_kept world (event.Cut count tear) answer next x = of_same world next (record world { armed = true }) x.1 (kept.same world.state)
  machine_kept world event.Status answer next x = told_kept world answer next (status_event world (running_state_in world)) x (status_kept world (running_state_in world))
  machine_kept world (event.Order text draw) answer next x = command_kept world text draw (running_state_in world) answer next refl x
  machine_kept world event.Go answer next x = told_kept world answer next (go_event world (running_state_in world)) x (go_kept world (running_state_in world))
  machine_kept world (event.Put L name value) answer next x =
      told_kept world answer next (region_event world L (put_event L name value) (running_state_in world)) x (region_kept world L (put_event L name value) (running_state_in world) refl (put_kept L name value))
  machine_kept world (event.Get L name) answer next x =
      told_kept world answer next (region_event world L (get_event L name) (running_state_in world)) x (region_kept world L (get_event L name) (running_state_in world) refl (get_kept L name))
  machine_kept world (event.Drop L name) answer next x =
      told_kept world answer next (region_event world L (drop_event L name) (running_state_in world)) x (region_kept world L (drop_event L name) (running_state_in world) refl (drop_kept L name))
  machine_kept world (event.Sign L key message) answer next x =
      told_kept world answer next (region_event world L (sign_event L key message) (running_state_in world)) x (region_kept world L (sign_event L key message) (running_state_in world) refl (sign_kept L key message))
  machine_kept world (event.Call L key input) answer next x = call_kept world _ (running_state_in world) answer next refl x

  -- a power loss leaves the state before or the one after
  pub step_kept : (world : World) (given : Event) (answer : Reply) (next : World) → Step world given answer next → R world.state next.state
  step_kept world given answer next (machine_step x) = machine_kept world given answer next x
  step_kept world given answer next (lacks_memory p) = of_same world next world p.stays (kept.same world.state)
  step_kept world given answer next (loses_power p) =
      let left : R world.state p.state = elim (p.counts) [
        | inl before ↦ subst (λ (o : Option State). R world.state o) (sym before) (kept.same world.state)
        | inr after ↦ subst (λ (o : Option State). R world.state o) (sym after) (machine_kept world given p.told p.whole p.machine)
      ] in
      subst (λ (w : World). R world.state w.state) (sym p.follows) left

  pub run_kept : ((a b c : Option State) → R a b → R b c → R a c) → (world : World) (answered : List Answered) (next : World) → Run world answered next → R world.state next.state
  run_kept on world [] next run = of_same world next world run (kept.same world.state)
  run_kept on world (this ∷ rest) next run =
      on world.state run.0.state next.state (step_kept world this.event this.reply run.0 run.1) (run_kept on run.0 rest next run.2)

-- ---- the worlds of a run

-- each is the end of a run
pub runs_lead_there : (world : World) (answered : List Answered) (next : World) (run : Run world answered next)
    → All (λ w. (part : List Answered) × Run world part w) (worlds_of world answered next run)
runs_lead_there world [] next run =
    let P : World → Type 0 = λ w. (part : List Answered) × Run world part w in
    All-cons P world [] ([], refl) (All-nil P)
runs_lead_there world (this ∷ rest) next run =
    let P : World → Type 0 = λ w. (part : List Answered) × Run world part w in
    let Q : World → Type 0 = λ w. (part : List Answered) × Run run.0 part w in
    let worlds : List World = worlds_of run.0 rest next run.2 in
    All-cons P world worlds ([], refl) (All-weaker Q P (λ w part. (this ∷ part.0, (run.0, run.1, part.1))) worlds (runs_lead_there run.0 rest next run.2))
