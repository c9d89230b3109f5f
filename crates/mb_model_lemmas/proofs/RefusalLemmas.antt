-- A refusal leaves all but the phase of a dead device that is booted; the machine is a function.
use Rattle.std.proofs.Common.{◌≡◌, ◌≤◌, ◌<◌, ℕ, ◌+◌, List, inl, inr, length, Option, None, Some, Bool, true, false, refl, sym, ap, subst, ◌∙◌, arith}
use Rattle.std.specs.Prelude.{◌⊎◌, zero, suc, IsTrue, Result, Ok, Err, not, nat_lt, nat_le, ◌&&◌, ◌||◌, find, if◌then◌else◌}
use Rattle.std.specs.List.{list_any}
use Rattle.mb_format.specs.Format.{IsBytes}
use Rattle.mb_model.specs.declared.event.Event.{Event}
use Rattle.mb_model.specs.declared.event.Event.TheVariants as event
use Rattle.mb_model.specs.declared.region.RegionKey.{RegionKey}
use Rattle.mb_model.specs.declared.reply.Reply.{Reply}
use Rattle.mb_model.specs.declared.reply.Reply.TheVariants as reply
use Rattle.mb_model.specs.declared.state.State.{State}
use Rattle.mb_model.specs.owners.Layers.{is_runnable}
use Rattle.mb_model.specs.declared.reply.Refusal.{Refusal}
use Rattle.mb_model.specs.declared.reply.Refusal.TheVariants.{WrongPhase, Zeroised, WrongLayer, WrongCode}
use Rattle.mb_model.specs.machine.Refusals.{refusal_reply}
use Rattle.mb_model.specs.owners.Regions.{region_of}
use Rattle.mb_model.specs.machine.LayerEvents.{Outcome, on_region, has_name, has_number, put_event, get_event, drop_event, sign_with, sign_event, code_in, takes_calls}
use Rattle.mb_model.specs.machine.Machine.{Phase, off, dead, ratchet, World, Told, boot_event, running_state, running_state_in, status_event, go_event, region_event, CommandStep, CallTold, Machine, may_be_cut, Step, machine_step, lacks_memory, loses_power}
use Rattle.mb_model.specs.machine.Calls.{Call, answer_by}
use Rattle.mb_model_lemmas.proofs.CallLemmas.{is_answered, IsAnswered, IsRefusedCall, AnswersAt, answered_is, on_layer_comes}
use Rattle.mb_model_lemmas.proofs.OneCallLemmas.{told_one, told_some}
use Rattle.mb_model_lemmas.specs.RefusalLaws.{Leaves, BringsBytes, IsPhase}
use Rattle.mb_model_lemmas.proofs.ReplyTests.{HasValue, either_has, boot_has, status_has, go_has, region_has, put_has, get_has, drop_has, command_has}
use Rattle.mb_model_lemmas.proofs.OrderLemmas.{one_order_step, some_order_step, refused_order_leaves}

-- ---- refusals

left_alone : (world : World) (given : Event) (next : World) → next ≡ world → Leaves world given next
left_alone world given next same = record {
  state = ap (λ (w : World). w.state) same;
  armed = ap (λ (w : World). w.armed) same;
  phase = inl (ap (λ (w : World). w.phase) same);
}

same_state : (world : World) (given : Event) (next : World) (state : State) → next ≡ record world { state = Some state } → world.state ≡ Some state → Leaves world given next
same_state world given next state same is = record {
  state = ap (λ (w : World). w.state) same ∙ sym is;
  armed = ap (λ (w : World). w.armed) same;
  phase = inl (ap (λ (w : World). w.phase) same);
}

boot_leaves : (world : World) (n : ℕ) (next : World) (phase : Phase) (state : Option State) → world.phase ≡ phase → world.state ≡ state
    → ◌≡◌ {A = Told} (reply.Refused n, next) (boot_event world phase state) → Leaves world event.Boot next
boot_leaves world n next off (Some state) at is e =
    let clash : reply.Refused n ≡ reply.Booted = ap (λ (t : Told). t.0) e in
    absurd (grind (arith, clash))
boot_leaves world n next off None at is e =
    let same : next ≡ record world { phase = dead } = ap (λ (t : Told). t.1) e in
    record {
      state = ap (λ (w : World). w.state) same;
      armed = ap (λ (w : World). w.armed) same;
      phase = inr (refl, is, at, ap (λ (w : World). w.phase) same);
    }
boot_leaves world n next dead state at is e = left_alone world event.Boot next (ap (λ (t : Told). t.1) e)
boot_leaves world n next (ratchet r) state at is e = left_alone world event.Boot next (ap (λ (t : Told). t.1) e)

status_leaves : (world : World) (n : ℕ) (next : World) (on : Result (ℕ × State) Refusal) → ◌≡◌ {A = Told} (reply.Refused n, next) (status_event world on) → next ≡ world
status_leaves world n next (Err refusal) e = ap (λ (t : Told). t.1) e
status_leaves world n next (Ok on) e = ap (λ (t : Told). t.1) e

go_either : (world : World) (n : ℕ) (next : World) (past runs : Bool) (r : ℕ) (further : World)
    → ◌≡◌ {A = Told} (reply.Refused n, next) (if past then (refusal_reply WrongPhase, world) else if runs then (reply.At r, further) else (refusal_reply WrongLayer, world))
    → next ≡ world
go_either world n next true runs r further e = ap (λ (t : Told). t.1) e
go_either world n next false true r further e =
    let clash : reply.Refused n ≡ reply.At r = ap (λ (t : Told). t.0) e in
    absurd (grind (arith, clash))
go_either world n next false false r further e = ap (λ (t : Told). t.1) e

go_leaves : (world : World) (n : ℕ) (next : World) (on : Result (ℕ × State) Refusal) → ◌≡◌ {A = Told} (reply.Refused n, next) (go_event world on) → next ≡ world
go_leaves world n next (Err refusal) e = ap (λ (t : Told). t.1) e
go_leaves world n next (Ok on) e =
    go_either world n next (nat_lt 2 on.0) (is_runnable on.1.layers (on.0 + 1)) (on.0 + 1) (record world { phase = ratchet (on.0 + 1) }) e

-- ---- what layers do

-- where it is refused, the state is left
abbrev Spares : State → Outcome → Type 0
Spares state outcome = (n : ℕ) → outcome.0 ≡ reply.Refused n → outcome.1 ≡ state

either_spares : (state : State) (b : Bool) (x y : Outcome) → Spares state x → Spares state y → Spares state (if b then x else y)
either_spares state true x y first second = first
either_spares state false x y first second = second

put_spares : (L : ℕ) (name value : List ℕ) (state : State) → Spares state (put_event L name value state)
unfolding put_event
put_spares L name value state =
    either_spares state (not (list_any (has_name name) (region_of state L).secrets) && nat_le 22 (length (region_of state L).secrets)) _ _
    (λ n e. refl) (λ n e. absurd (grind (arith, e)))

get_spares : (L : ℕ) (name : List ℕ) (state : State) → Spares state (get_event L name state)
unfolding get_event
get_spares L name state n e = refl

drop_spares : (L : ℕ) (name : List ℕ) (state : State) → Spares state (drop_event L name state)
unfolding drop_event
drop_spares L name state =
    either_spares state (list_any (has_name name) (region_of state L).secrets) _ _ (λ n e. absurd (grind (arith, e))) (λ n e. refl)

sign_with_spares : (L : ℕ) (key : Option RegionKey) (message : List ℕ) (state : State) → Spares state (sign_with L key message state)
sign_with_spares L None message state = λ n e. refl
sign_with_spares L (Some key) message state =
    either_spares state (nat_le 32 key.uses) _ _ (λ n e. refl) (λ n e. absurd (grind (arith, e)))

sign_spares : (L number : ℕ) (message : List ℕ) (state : State) → Spares state (sign_event L number message state)
unfolding sign_event
sign_spares L number message state = sign_with_spares L (find (has_number number) (region_of state L).keys) message state

region_spares : (r L : ℕ) (does : State → Outcome) (state : State) → Spares state (does state) → Spares state (on_region r L does state)
region_spares r L does state spares =
    either_spares state (nat_lt L r || not (is_runnable state.layers L)) (refusal_reply WrongLayer, state) _ (λ n e. refl)
    (either_spares state (takes_calls (code_in state.codes L)) (refusal_reply WrongCode, state) (does state) (λ n e. refl) spares)

-- a device that is awake has the state
pub awake_state : (phase : Phase) (state : Option State) (on : ℕ × State) → running_state phase state ≡ Ok on → state ≡ Some on.1
awake_state off state on e = absurd (grind (arith, e))
awake_state dead state on e = absurd (grind (arith, e))
awake_state (ratchet r) None on e = absurd (grind (arith, e))
awake_state (ratchet r) (Some state) on e =
    ap Some (ap (λ (x : Result (ℕ × State) Refusal). elim x [ Ok y ↦ y.1 | Err refusal ↦ state ]) e)

region_leaves : (world : World) (given : Event) (L : ℕ) (does : State → Outcome) (n : ℕ) (next : World) (on : Result (ℕ × State) Refusal)
    → ((state : State) → Spares state (does state)) → running_state_in world ≡ on
    → ◌≡◌ {A = Told} (reply.Refused n, next) (region_event world L does on) → Leaves world given next
region_leaves world given L does n next (Err refusal) spares is e = left_alone world given next (ap (λ (t : Told). t.1) e)
region_leaves world given L does n next (Ok on) spares is e =
    let same : next ≡ record world { state = Some (on_region on.0 L does on.1).1 } = ap (λ (t : Told). t.1) e in
    let answer : (on_region on.0 L does on.1).0 ≡ reply.Refused n = sym (ap (λ (t : Told). t.0) e) in
    let stays : (on_region on.0 L does on.1).1 ≡ on.1 = region_spares on.0 L does on.1 (spares on.1) n answer in
    same_state world given next on.1 (same ∙ ap (λ (s : State). record world { state = Some s }) stays) (awake_state world.phase world.state on is)

command_leaves : (world : World) (text draw : List ℕ) (n : ℕ) (next : World) (on : Result (ℕ × State) Refusal) → running_state_in world ≡ on
    → CommandStep world text draw on (reply.Refused n) next → Leaves world (event.Order text draw) next
command_leaves world text draw n next (Err refusal) is x = left_alone world (event.Order text draw) next x.1
command_leaves world text draw n next (Ok on) is (inl x) =
    let stays : x.1.0 ≡ on.1 = refused_order_leaves on.1 text draw n x.1.0 x.1.1 in
    same_state world (event.Order text draw) next on.1 (x.1.2 ∙ ap (λ (s : State). record world { state = Some s }) stays) (awake_state world.phase world.state on is)
command_leaves world text draw n next (Ok on) is (inr x) = left_alone world (event.Order text draw) next x.2

call_left : (world : World) (given : Event) (call : Call) (n : ℕ) (next : World) (on : ℕ × State) (outcome : Outcome) → running_state_in world ≡ Ok on
    → AnswersAt on.0 call on.1 outcome ⊎ IsRefusedCall on.1 outcome → reply.Refused n ≡ outcome.0 → next ≡ record world { state = Some outcome.1 } → Leaves world given next
call_left world given call n next on outcome is (inl answers) told follows =
    let clash : is_answered (reply.Refused n) ≡ is_answered outcome.0 = ap is_answered told in
    absurd (grind (arith, clash, answered_is call on.1 outcome answers.is))
call_left world given call n next on outcome is (inr refused) told follows =
    same_state world given next on.1 (follows ∙ ap (λ (s : State). record world { state = Some s }) refused.1) (awake_state world.phase world.state on is)

call_leaves : (world : World) (call : Call) (n : ℕ) (next : World) (on : Result (ℕ × State) Refusal) → running_state_in world ≡ on
    → CallTold world call on (reply.Refused n) next → Leaves world (event.Call call.layer call.key call.input) next
call_leaves world call n next (Err refusal) is x = left_alone world _ next x.1
call_leaves world call n next (Ok on) is (outcome, at, told, follows) = call_left world _ call n next on outcome is (on_layer_comes on.0 call on.1 outcome at) told follows

machine_leaves : (world : World) (given : Event) (n : ℕ) (next : World) → Machine world given (reply.Refused n) next → Leaves world given next
machine_leaves world event.Boot n next x = boot_leaves world n next world.phase world.state refl refl x
machine_leaves world event.Off n next x = absurd (grind (arith, x.0))
machine_leaves world event.Tamper n next x = absurd (grind (arith, x.0))
machine_leaves world (event.Cut count tear) n next x = absurd (grind (arith, x.0))
machine_leaves world event.Status n next x = left_alone world event.Status next (status_leaves world n next (running_state_in world) x)
machine_leaves world (event.Order text draw) n next x = command_leaves world text draw n next (running_state_in world) refl x
machine_leaves world event.Go n next x = left_alone world event.Go next (go_leaves world n next (running_state_in world) x)
machine_leaves world (event.Put L name value) n next x = region_leaves world (event.Put L name value) L (put_event L name value) n next (running_state_in world) (put_spares L name value) refl x
machine_leaves world (event.Get L name) n next x = region_leaves world (event.Get L name) L (get_event L name) n next (running_state_in world) (get_spares L name) refl x
machine_leaves world (event.Drop L name) n next x = region_leaves world (event.Drop L name) L (drop_event L name) n next (running_state_in world) (drop_spares L name) refl x
machine_leaves world (event.Sign L key message) n next x = region_leaves world (event.Sign L key message) L (sign_event L key message) n next (running_state_in world) (sign_spares L key message) refl x
machine_leaves world (event.Call L key input) n next x = call_leaves world _ n next (running_state_in world) refl x

pub refusals_leave : (world : World) (given : Event) (n : ℕ) (next : World) → Step world given (reply.Refused n) next → Leaves world given next
refusals_leave world given n next (machine_step x) = machine_leaves world given n next x
refusals_leave world given n next (lacks_memory p) = absurd (grind (arith, p.answered))
refusals_leave world given n next (loses_power p) = absurd (grind (arith, p.answered))

-- ---- the machine's own answers

-- the reply is none that only the world gives
abbrev is_own : Reply → Bool
is_own reply.NoMemory = false
is_own reply.Stopped = false
is_own other = true

own_replies : HasValue is_own true
own_replies = record {
  booted = refl;
  off = refl;
  tampered = refl;
  armed = refl;
  at = λ layer. refl;
  done = λ number size. refl;
  kept = refl;
  dropped = refl;
  secret = λ bytes. refl;
  absent = refl;
  status = λ serial number size one two three. refl;
  refused = λ number. refl;
}

sign_with_own : (L : ℕ) (key : Option RegionKey) (message : List ℕ) (state : State) → is_own (sign_with L key message state).0 ≡ true
sign_with_own L None message state = refl
sign_with_own L (Some key) message state = either_has (λ (outcome : Outcome). is_own outcome.0) true (nat_le 32 key.uses) _ _ refl refl

sign_own : (L number : ℕ) (message : List ℕ) (state : State) → is_own (sign_event L number message state).0 ≡ true
unfolding sign_event
sign_own L number message state = sign_with_own L (find (has_number number) (region_of state L).keys) message state

told_own : (answer : Reply) (next : World) (told : Told) → ◌≡◌ {A = Told} (answer, next) told → is_own told.0 ≡ true → is_own answer ≡ true
told_own answer next told e own = ap (λ (t : Told). is_own t.0) e ∙ own

answered_own : (call : Call) (state : State) (outcome : Outcome) (is : IsAnswered state call outcome) → (key : Option RegionKey) → is.key ≡ key → is_own outcome.0 ≡ true
answered_own call state outcome is None same =
    ap (λ (o : Outcome). is_own o.0) is.comes ∙ ap (λ (k : Option RegionKey). is_own (answer_by call.layer k call.input is.action.answer state is.done).0) same
answered_own call state outcome is (Some key) same =
    ap (λ (o : Outcome). is_own o.0) is.comes ∙ ap (λ (k : Option RegionKey). is_own (answer_by call.layer k call.input is.action.answer state is.done).0) same

either_own : (call : Call) (state : State) (outcome : Outcome) {level : ℕ} → AnswersAt level call state outcome ⊎ IsRefusedCall state outcome → is_own outcome.0 ≡ true
either_own call state outcome (inl answers) = answered_own call state outcome answers.is answers.is.key refl
either_own call state outcome (inr refused) = ap is_own refused.0.1

-- an answer to a call is one of the machine's own
call_own : (world : World) (call : Call) (on : Result (ℕ × State) Refusal) (answer : Reply) (next : World) → CallTold world call on answer next → is_own answer ≡ true
call_own world call (Err refusal) answer next x = ap is_own x.0
call_own world call (Ok on) answer next (outcome, at, told, follows) = ap is_own told ∙ either_own call on.1 outcome (on_layer_comes on.0 call on.1 outcome at)

machine_own : (world : World) (given : Event) (answer : Reply) (next : World) → Machine world given answer next → is_own answer ≡ true
machine_own world event.Boot answer next x = told_own answer next (boot_event world world.phase world.state) x (boot_has is_own true own_replies world world.phase world.state)
machine_own world event.Off answer next x = ap is_own x.0
machine_own world event.Tamper answer next x = ap is_own x.0
machine_own world (event.Cut count tear) answer next x = ap is_own x.0
machine_own world event.Status answer next x = told_own answer next (status_event world (running_state_in world)) x (status_has is_own true own_replies world (running_state_in world))
machine_own world (event.Order text draw) answer next x = command_has is_own true own_replies world text draw (running_state_in world) answer next x
machine_own world event.Go answer next x = told_own answer next (go_event world (running_state_in world)) x (go_has is_own true own_replies world (running_state_in world))
machine_own world (event.Put L name value) answer next x = told_own answer next (region_event world L (put_event L name value) (running_state_in world)) x (region_has is_own true own_replies world L (put_event L name value) (running_state_in world) (put_has is_own true own_replies L name value))
machine_own world (event.Get L name) answer next x = told_own answer next (region_event world L (get_event L name) (running_state_in world)) x (region_has is_own true own_replies world L (get_event L name) (running_state_in world) (get_has is_own true own_replies L name))
machine_own world (event.Drop L name) answer next x = told_own answer next (region_event world L (drop_event L name) (running_state_in world)) x (region_has is_own true own_replies world L (drop_event L name) (running_state_in world) (drop_has is_own true own_replies L name))
machine_own world (event.Sign L key message) answer next x = told_own answer next (region_event world L (sign_event L key message) (running_state_in world)) x (region_has is_own true own_replies world L (sign_event L key message) (running_state_in world) (sign_own L key message))
machine_own world (event.Call L key input) answer next x = call_own world _ (running_state_in world) answer next x

not_own : (answer other : Reply) → is_own other ≡ false → is_own answer ≡ true → answer ≡ other → ⊥
not_own answer other foreign own same =
    let e : false ≡ true = sym foreign ∙ sym (ap is_own same) ∙ own in
    grind (arith, e)

pub machine_is_whole : (world : World) (given : Event) (answer : Reply) (next : World) → Machine world given answer next → (answer ≡ reply.NoMemory → ⊥) × (answer ≡ reply.Stopped → ⊥)
machine_is_whole world given answer next x =
    let own = machine_own world given answer next x in
    (not_own answer reply.NoMemory refl own, not_own answer reply.Stopped refl own)

pub no_memory_leaves : (world : World) (given : Event) (next : World) → Step world given reply.NoMemory next → next ≡ world
no_memory_leaves world given next (machine_step x) = absurd ((machine_is_whole world given reply.NoMemory next x).0 refl)
no_memory_leaves world given next (lacks_memory p) = p.stays
no_memory_leaves world given next (loses_power p) = absurd (grind (arith, p.answered))

-- ---- power after an event

-- a device that is awake has power
awake_is_on : (world : World) (on : ℕ × State) → running_state_in world ≡ Ok on → world.phase ≡ off → ⊥
awake_is_on world on is dark =
    let dark_refused : running_state off world.state ≡ Ok on = subst (λ (phase : Phase). running_state phase world.state ≡ Ok on) dark is in
    grind (arith, dark_refused)

-- a reply that only an event which writes can have: power is on after it
abbrev IsOnAfter : Reply → World → Type 0
IsOnAfter answer next = may_be_cut answer ≡ true → next.phase ≡ off → ⊥

quiet : (answer other : Reply) (next : World) → answer ≡ other → may_be_cut other ≡ false → IsOnAfter answer next
quiet answer other next same uncut writes =
    let clash : true ≡ false = sym writes ∙ ap may_be_cut same ∙ uncut in
    absurd (grind (arith, clash))

refuses : (refusal : Refusal) (next : World) → IsOnAfter (refusal_reply refusal) next
refuses refusal next = quiet (refusal_reply refusal) (refusal_reply refusal) next refl refl

told_on : (answer : Reply) (next : World) (told : Told) → ◌≡◌ {A = Told} (answer, next) told → IsOnAfter told.0 told.1 → IsOnAfter answer next
told_on answer next told e on writes dark = on (sym (ap (λ (t : Told). may_be_cut t.0) e) ∙ writes) (sym (ap (λ (t : Told). t.1.phase) e) ∙ dark)

boot_on : (world : World) (phase : Phase) (state : Option State) → IsOnAfter (boot_event world phase state).0 (boot_event world phase state).1
boot_on world off (Some state) = λ writes dark. grind (arith, dark)
boot_on world off None = refuses Zeroised (record world { phase = dead })
boot_on world dead state = refuses Zeroised world
boot_on world (ratchet r) state = refuses WrongPhase world

status_on : (world : World) (on : Result (ℕ × State) Refusal) → running_state_in world ≡ on → IsOnAfter (status_event world on).0 (status_event world on).1
status_on world (Err refusal) is = refuses refusal world
status_on world (Ok on) is = λ writes dark. awake_is_on world on is dark

region_on : (world : World) (L : ℕ) (does : State → Outcome) (on : Result (ℕ × State) Refusal) → running_state_in world ≡ on → IsOnAfter (region_event world L does on).0 (region_event world L does on).1
region_on world L does (Err refusal) is = refuses refusal world
region_on world L does (Ok on) is = λ writes dark. awake_is_on world on is dark

either_on : (b : Bool) (x y : Told) → IsOnAfter x.0 x.1 → IsOnAfter y.0 y.1 → IsOnAfter (if b then x else y).0 (if b then x else y).1
either_on true x y first second = first
either_on false x y first second = second

go_on : (world : World) (on : Result (ℕ × State) Refusal) → running_state_in world ≡ on → IsOnAfter (go_event world on).0 (go_event world on).1
go_on world (Err refusal) is = refuses refusal world
go_on world (Ok on) is =
    either_on (nat_lt 2 on.0) (refusal_reply WrongPhase, world) _ (refuses WrongPhase world)
    (either_on (is_runnable on.1.layers (on.0 + 1)) (reply.At (on.0 + 1), record world { phase = ratchet (on.0 + 1) }) (refusal_reply WrongLayer, world)
    (quiet (reply.At (on.0 + 1)) (reply.At (on.0 + 1)) (record world { phase = ratchet (on.0 + 1) }) refl refl) (refuses WrongLayer world))

command_on : (world : World) (text draw : List ℕ) (on : Result (ℕ × State) Refusal) (answer : Reply) (next : World) → running_state_in world ≡ on
    → CommandStep world text draw on answer next → IsOnAfter answer next
command_on world text draw (Err refusal) answer next is x = quiet answer (refusal_reply refusal) next x.0 refl
command_on world text draw (Ok on) answer next is (inl x) = λ writes dark. awake_is_on world on is (sym (ap (λ (w : World). w.phase) x.1.2) ∙ dark)
command_on world text draw (Ok on) answer next is (inr x) = quiet answer (refusal_reply WrongPhase) next x.1 refl

call_on : (world : World) (call : Call) (on : Result (ℕ × State) Refusal) (answer : Reply) (next : World) → running_state_in world ≡ on → CallTold world call on answer next → IsOnAfter answer next
call_on world call (Err refusal) answer next is x = quiet answer (refusal_reply refusal) next x.0 refl
call_on world call (Ok on) answer next is (outcome, at, told, follows) = λ writes dark. awake_is_on world on is (sym (ap (λ (w : World). w.phase) follows) ∙ dark)

machine_on : (world : World) (given : Event) (answer : Reply) (next : World) → Machine world given answer next → IsOnAfter answer next
machine_on world event.Boot answer next x = told_on answer next (boot_event world world.phase world.state) x (boot_on world world.phase world.state)
machine_on world event.Off answer next x = quiet answer reply.Off next x.0 refl
machine_on world event.Tamper answer next x = quiet answer reply.Tampered next x.0 refl
machine_on world (event.Cut count tear) answer next x = quiet answer reply.Armed next x.0 refl
machine_on world event.Status answer next x = told_on answer next (status_event world (running_state_in world)) x (status_on world (running_state_in world) refl)
machine_on world (event.Order text draw) answer next x = command_on world text draw (running_state_in world) answer next refl x
machine_on world event.Go answer next x = told_on answer next (go_event world (running_state_in world)) x (go_on world (running_state_in world) refl)
machine_on world (event.Put L name value) answer next x = told_on answer next (region_event world L (put_event L name value) (running_state_in world)) x (region_on world L (put_event L name value) (running_state_in world) refl)
machine_on world (event.Get L name) answer next x = told_on answer next (region_event world L (get_event L name) (running_state_in world)) x (region_on world L (get_event L name) (running_state_in world) refl)
machine_on world (event.Drop L name) answer next x = told_on answer next (region_event world L (drop_event L name) (running_state_in world)) x (region_on world L (drop_event L name) (running_state_in world) refl)
machine_on world (event.Sign L key message) answer next x = told_on answer next (region_event world L (sign_event L key message) (running_state_in world)) x (region_on world L (sign_event L key message) (running_state_in world) refl)
machine_on world (event.Call L key input) answer next x = call_on world _ (running_state_in world) answer next refl x

-- power is on after an event that was answered as one that writes
pub written_is_on : (world : World) (given : Event) (answer : Reply) (next : World) → Step world given answer next → may_be_cut answer ≡ true → next.phase ≡ off → ⊥
written_is_on world given answer next (machine_step x) = machine_on world given answer next x
written_is_on world given answer next (lacks_memory p) = quiet answer reply.NoMemory next p.answered refl
written_is_on world given answer next (loses_power p) = quiet answer reply.Stopped next p.answered refl

-- a device that was tampered with has no state
pub tampered_is_dead : (world : World) (answer : Reply) (next : World) → Step world event.Tamper answer next → next.state ≡ None
tampered_is_dead world answer next (machine_step x) = ap (λ (w : World). w.state) x.1
tampered_is_dead world answer next (lacks_memory p) = absurd (grind (arith, p.wanted))
tampered_is_dead world answer next (loses_power p) =
    let clash : IsTrue (may_be_cut reply.Tampered) = subst (λ (r : Reply). IsTrue (may_be_cut r)) p.machine.0 p.writes in
    absurd (grind (arith, clash))

-- ---- the machine is a function

one_told : (a b : Reply) (m n : World) (told : Told) → ◌≡◌ {A = Told} (a, m) told → ◌≡◌ {A = Told} (b, n) told → (a ≡ b) × (m ≡ n)
one_told a b m n told x y =
    let same : ◌≡◌ {A = Told} (a, m) (b, n) = x ∙ sym y in
    (ap (λ (t : Told). t.0) same, ap (λ (t : Told). t.1) same)

one_command : (world : World) (text draw : List ℕ) (on : Result (ℕ × State) Refusal) (a b : Reply) (m n : World) → IsBytes text
    → CommandStep world text draw on a m → CommandStep world text draw on b n → (a ≡ b) × (m ≡ n)
one_command world text draw (Err refusal) a b m n are x y = (x.0 ∙ sym y.0, x.1 ∙ sym y.1)
one_command world text draw (Ok on) a b m n are (inl x) (inl y) =
    let same = one_order_step on.1 text draw a b x.1.0 y.1.0 are x.1.1 y.1.1 in
    (same.0, x.1.2 ∙ ap (λ (s : State). record world { state = Some s }) same.1 ∙ sym y.1.2)
one_command world text draw (Ok on) a b m n are (inl x) (inr y) = absurd (omega (arith, x.0, y.0))
one_command world text draw (Ok on) a b m n are (inr x) (inl y) = absurd (omega (arith, x.0, y.0))
one_command world text draw (Ok on) a b m n are (inr x) (inr y) = (x.1 ∙ sym y.1, x.2 ∙ sym y.2)

pub machine_is_function : (world : World) (given : Event) (a b : Reply) (m n : World) → BringsBytes given → Machine world given a m → Machine world given b n → (a ≡ b) × (m ≡ n)
machine_is_function world event.Boot a b m n are x y = one_told a b m n (boot_event world world.phase world.state) x y
machine_is_function world event.Off a b m n are x y = (x.0 ∙ sym y.0, x.1 ∙ sym y.1)
machine_is_function world event.Tamper a b m n are x y = (x.0 ∙ sym y.0, x.1 ∙ sym y.1)
machine_is_function world (event.Cut count tear) a b m n are x y = (x.0 ∙ sym y.0, x.1 ∙ sym y.1)
machine_is_function world event.Status a b m n are x y = one_told a b m n (status_event world (running_state_in world)) x y
machine_is_function world (event.Order text draw) a b m n are x y = one_command world text draw (running_state_in world) a b m n are x y
machine_is_function world event.Go a b m n are x y = one_told a b m n (go_event world (running_state_in world)) x y
machine_is_function world (event.Put L name value) a b m n are x y = one_told a b m n (region_event world L (put_event L name value) (running_state_in world)) x y
machine_is_function world (event.Get L name) a b m n are x y = one_told a b m n (region_event world L (get_event L name) (running_state_in world)) x y
machine_is_function world (event.Drop L name) a b m n are x y = one_told a b m n (region_event world L (drop_event L name) (running_state_in world)) x y
machine_is_function world (event.Sign L key message) a b m n are x y = one_told a b m n (region_event world L (sign_event L key message) (running_state_in world)) x y
machine_is_function world (event.Call L key input) a b m n are x y = told_one world _ (running_state_in world) a b m n x y

-- ---- phases

is_awake : (phase : Phase) (state : Option State) (on : ℕ × State) → IsPhase phase → running_state phase state ≡ Ok on → (1 ≤ on.0) × (on.0 ≤ 3)
is_awake off state on holds e = absurd (grind (arith, e))
is_awake dead state on holds e = absurd (grind (arith, e))
is_awake (ratchet r) None on holds e = absurd (grind (arith, e))
is_awake (ratchet r) (Some state) on holds e =
    let same : r ≡ on.0 = ap (λ (x : Result (ℕ × State) Refusal). elim x [ Ok y ↦ y.0 | Err refusal ↦ r ]) e in
    subst (λ (k : ℕ). (1 ≤ k) × (k ≤ 3)) same holds

-- the same phase in the world that is told
same_phase : (world : World) (answer : Reply) (next : World) (told : Told) → IsPhase world.phase → told.1.phase ≡ world.phase → ◌≡◌ {A = Told} (answer, next) told → IsPhase next.phase
same_phase world answer next told holds same e = subst IsPhase (sym (ap (λ (t : Told). t.1.phase) e ∙ same)) holds

boot_phase : (world : World) (phase : Phase) (state : Option State) → world.phase ≡ phase → IsPhase phase → IsPhase (boot_event world phase state).1.phase
boot_phase world off (Some state) at holds = (omega arith, omega arith)
boot_phase world off None at holds = tt
boot_phase world dead state at holds = subst IsPhase (sym at) tt
boot_phase world (ratchet r) state at holds = subst IsPhase (sym at) holds

status_phase : (world : World) (on : Result (ℕ × State) Refusal) → (status_event world on).1.phase ≡ world.phase
status_phase world (Err refusal) = refl
status_phase world (Ok on) = refl

region_phase : (world : World) (L : ℕ) (does : State → Outcome) (on : Result (ℕ × State) Refusal) → (region_event world L does on).1.phase ≡ world.phase
region_phase world L does (Err refusal) = refl
region_phase world L does (Ok on) = refl

either_phase : (b : Bool) (x y : Told) → (b ≡ true → IsPhase x.1.phase) → (b ≡ false → IsPhase y.1.phase) → IsPhase (if b then x else y).1.phase
either_phase true x y first second = first refl
either_phase false x y first second = second refl

not_past : (r : ℕ) → nat_lt 2 r ≡ false → r + 1 ≤ 3
not_past r e = grind (arith, e)

go_phase : (world : World) (on : Result (ℕ × State) Refusal) → running_state_in world ≡ on → IsPhase world.phase → IsPhase (go_event world on).1.phase
go_phase world (Err refusal) is holds = holds
go_phase world (Ok on) is holds =
    either_phase (nat_lt 2 on.0) (refusal_reply WrongPhase, world) _ (λ past. holds)
    (λ below. either_phase (is_runnable on.1.layers (on.0 + 1)) (reply.At (on.0 + 1), record world { phase = ratchet (on.0 + 1) }) (refusal_reply WrongLayer, world)
    (λ runs. (omega arith, not_past on.0 below)) (λ stays. holds))

command_phase : (world : World) (text draw : List ℕ) (on : Result (ℕ × State) Refusal) (answer : Reply) (next : World) → CommandStep world text draw on answer next → next.phase ≡ world.phase
command_phase world text draw (Err refusal) answer next x = ap (λ (w : World). w.phase) x.1
command_phase world text draw (Ok on) answer next (inl x) = ap (λ (w : World). w.phase) x.1.2
command_phase world text draw (Ok on) answer next (inr x) = ap (λ (w : World). w.phase) x.2

call_phase : (world : World) (call : Call) (on : Result (ℕ × State) Refusal) (answer : Reply) (next : World) → CallTold world call on answer next → next.phase ≡ world.phase
call_phase world call (Err refusal) answer next x = ap (λ (w : World). w.phase) x.1
call_phase world call (Ok on) answer next (outcome, at, told, follows) = ap (λ (w : World). w.phase) follows

machine_phase : (world : World) (given : Event) (answer : Reply) (next : World) → IsPhase world.phase → Machine world given answer next → IsPhase next.phase
machine_phase world event.Boot answer next holds x =
    subst IsPhase (sym (ap (λ (t : Told). t.1.phase) x)) (boot_phase world world.phase world.state refl holds)
machine_phase world event.Off answer next holds x = subst IsPhase (sym (ap (λ (w : World). w.phase) x.1)) tt
machine_phase world event.Tamper answer next holds x = subst IsPhase (sym (ap (λ (w : World). w.phase) x.1)) tt
machine_phase world (event.Cut count tear) answer next holds x = subst IsPhase (sym (ap (λ (w : World). w.phase) x.1)) holds
machine_phase world event.Status answer next holds x = same_phase world answer next (status_event world (running_state_in world)) holds (status_phase world (running_state_in world)) x
machine_phase world (event.Order text draw) answer next holds x = subst IsPhase (sym (command_phase world text draw (running_state_in world) answer next x)) holds
machine_phase world event.Go answer next holds x = subst IsPhase (sym (ap (λ (t : Told). t.1.phase) x)) (go_phase world (running_state_in world) refl holds)
machine_phase world (event.Put L name value) answer next holds x = same_phase world answer next (region_event world L (put_event L name value) (running_state_in world)) holds (region_phase world L (put_event L name value) (running_state_in world)) x
machine_phase world (event.Get L name) answer next holds x = same_phase world answer next (region_event world L (get_event L name) (running_state_in world)) holds (region_phase world L (get_event L name) (running_state_in world)) x
machine_phase world (event.Drop L name) answer next holds x = same_phase world answer next (region_event world L (drop_event L name) (running_state_in world)) holds (region_phase world L (drop_event L name) (running_state_in world)) x
machine_phase world (event.Sign L key message) answer next holds x = same_phase world answer next (region_event world L (sign_event L key message) (running_state_in world)) holds (region_phase world L (sign_event L key message) (running_state_in world)) x
machine_phase world (event.Call L key input) answer next holds x = subst IsPhase (sym (call_phase world _ (running_state_in world) answer next x)) holds

pub phases_stay_phases : (world : World) (given : Event) (answer : Reply) (next : World) → IsPhase world.phase → Step world given answer next → IsPhase next.phase
phases_stay_phases world given answer next holds (machine_step x) = machine_phase world given answer next holds x
phases_stay_phases world given answer next holds (lacks_memory p) = subst IsPhase (sym (ap (λ (w : World). w.phase) p.stays)) holds
phases_stay_phases world given answer next holds (loses_power p) = subst IsPhase (sym (ap (λ (w : World). w.phase) p.follows)) tt

-- ---- no event is without an answer

first_or_later : (r : ℕ) → 1 ≤ r → (r ≡ 1) ⊎ (1 < r)
first_or_later zero low = absurd (omega (arith, low))
first_or_later (suc zero) low = inl (omega arith)
first_or_later (suc (suc r)) low = inr (omega arith)

some_command : (world : World) (text draw : List ℕ) (on : Result (ℕ × State) Refusal) → running_state_in world ≡ on → IsPhase world.phase → IsBytes text
    → ((answer : Reply) (next : World) → CommandStep world text draw on answer next → ⊥) → ⊥
some_command world text draw (Err refusal) is holds are none = none (refusal_reply refusal) world (refl, refl)
some_command world text draw (Ok on) is holds are none =
    elim (first_or_later on.0 (is_awake world.phase world.state on holds is).0) [
      | inl one ↦ some_order_step on.1 text draw are (λ answer state step. none answer (record world { state = Some state }) (inl (one, (state, step, refl))))
      | inr past ↦ none (refusal_reply WrongPhase) world (inr (past, refl, refl))
    ]

pub machine_answers : (world : World) (given : Event) → IsPhase world.phase → BringsBytes given → ((answer : Reply) (next : World) → Machine world given answer next → ⊥) → ⊥
machine_answers world event.Boot holds are none = none _ _ refl
machine_answers world event.Off holds are none = none _ _ (refl, refl)
machine_answers world event.Tamper holds are none = none _ _ (refl, refl)
machine_answers world (event.Cut count tear) holds are none = none _ _ (refl, refl)
machine_answers world event.Status holds are none = none _ _ refl
machine_answers world (event.Order text draw) holds are none = some_command world text draw (running_state_in world) refl holds are none
machine_answers world event.Go holds are none = none _ _ refl
machine_answers world (event.Put L name value) holds are none = none _ _ refl
machine_answers world (event.Get L name) holds are none = none _ _ refl
machine_answers world (event.Drop L name) holds are none = none _ _ refl
machine_answers world (event.Sign L key message) holds are none = none _ _ refl
machine_answers world (event.Call L key input) holds are none = told_some world _ (running_state_in world) none
