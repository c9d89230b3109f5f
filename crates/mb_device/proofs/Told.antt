-- What a running device tells from what it remembers.
use Rattle.std.proofs.Common.{◌≡◌, ℕ, ◌+◌, List, Bool, true, false, Option, refl, sym, ap, subst, ◌∙◌, arith, length}
use Rattle.std.specs.Prelude.{Result}
use Rattle.std.proofs.lemmas.List.{length-map}
use Rattle.mb_model.specs.declared.event.Event.TheVariants as event
use Rattle.mb_model.specs.declared.reply.Reply.{Reply}
use Rattle.mb_model.specs.declared.reply.Reply.TheVariants as reply
use Rattle.mb_model.specs.declared.state.State.{State}
use Rattle.mb_model.specs.declared.entry.Entry.{Entry}
use Rattle.mb_model.specs.declared.entry.SignedEntry.{SignedEntry}
use Rattle.mb_model.specs.outside.Board.{Memory, Meter}
use Rattle.mb_model.specs.owners.Layers.{is_runnable}
use Rattle.mb_model.specs.owners.Log.{entries_of, number_of}
use Rattle.mb_model.specs.machine.Machine.{ratchet, World, Told, running_state_in, status_of, status_event, Machine, machine_step}
use Rattle.mb_model.specs.declared.reply.Refusal.{Refusal}
use Rattle.mb_model.specs.declared.reply.Refusal.TheVariants.{WrongLayer}
use Rattle.mb_model.specs.machine.Refusals.{refusal_reply}
use Rattle.mb_model.specs.memories.Valid.{Valid, IsValidState}
use Rattle.mb_board.specs.Calls.{held_by}
use Rattle.mb_model_memory.specs.Holding.{IsReady}
use Rattle.mb_device_orders.specs.Remembering.{Knows, KnowsCode}
use Rattle.mb_device_orders.specs.declared.remembering.Known.{Known}
use Rattle.mb_device.specs.declared.device.Device.{Device}
use Rattle.mb_device_orders.specs.declared.remembering.Running.{Running}
use Rattle.mb_device.specs.Sound.{IsSoundDevice, IsRunning, Fits, Steps}
use Rattle.mb_device.specs.Stepping.{status_known}
use Rattle.mb_device.proofs.Worlds.{awake_at, go_second, go_third, go_no_second, go_no_third}
use Rattle.mb_device.proofs.Steps.{live_world, live_sound, running_ready}
use Rattle.mb_device.proofs.Uses.{known_layers, known_runs}

-- ---- status

pub known_number : (known : Known) (state : State) → Knows known state → known.figures.number ≡ number_of (entries_of state.log)
known_number known state knows = ap (λ f. f.number) knows.figures

known_length : (known : Known) (state : State) → Knows known state → known.figures.length ≡ length state.log
known_length known state knows = ap (λ f. f.length) knows.figures ∙ length-map {A = SignedEntry} {B = Entry} state.log (λ signed. signed.entry)

status_is : (known : Known) (state : State) → Knows known state → IsValidState state → status_known known ≡ status_of state
unfolding status_of
status_is known state knows valid =
    let serial = knows.serial in
    let number = known_number known state knows in
    let size = known_length known state knows in
    let layers = known_layers known state knows valid in
    rw (serial, number, size, layers) refl

pub status_told : (flash : List ℕ) (world : World) (r : ℕ) (running : Running) (answer : Reply) → answer ≡ status_known running.known → IsRunning r running flash world → Valid world.state
    → ◌≡◌ {A = Told} (answer, world) (status_event world (running_state_in world))
status_told flash world r running answer is own valid =
    let told : answer ≡ status_of own.state = is ∙ status_is running.known own.state own.knows (subst Valid own.live valid) in
    subst (λ (on : Result (ℕ × State) Refusal). ◌≡◌ {A = Told} (answer, world) (status_event world on)) (sym (awake_at world r own.state own.phase own.live))
    (ap (λ (a : Reply). let t : Told = (a, world) in t) told)

-- ---- control

-- the next layer runs now
pub goes_on : (before after : Device) (r : ℕ) (running : Running) (memory new : Memory) (power power_new : Bool) (level level_new : ℕ) (meter meter_new : Meter) (world : World)
    → IsSoundDevice before (held_by memory power level meter) world → (own : IsRunning r running memory.flash world)
    → Machine world event.Go (reply.At (r + 1)) (record world { phase = ratchet (r + 1) }) → new ≡ memory → meter_new ≡ meter → power_new ≡ true → level_new ≡ r + 1
    → ((w : World) → IsRunning (r + 1) running new.flash w → Fits after new.flash w) → Steps world event.Go (reply.At (r + 1)) after (held_by new power_new level_new meter_new)
goes_on before after r running memory new power power_new level level_new meter meter_new world sound own machine same counts on at fits =
    let ready = running_ready before r (held_by memory power level meter) world own.state sound own.phase own.live in
    let armed : world.armed ≡ meter_new.armed = sound.shown.armed ∙ sym (ap (λ (m : Meter). m.armed) counts) in
    let next : World = live_world (r + 1) own.state meter_new.armed in
    let there : record world { phase = ratchet (r + 1) } ≡ next =
    ap (λ (o : Option State). let w : World = record { state = o; phase = ratchet (r + 1); armed = world.armed } in w) own.live
    ∙ ap (λ (b : Bool). let w : World = live_world (r + 1) own.state b in w) armed in
    record {
      next = next;
      step = machine_step (subst (λ (w : World). Machine world event.Go (reply.At (r + 1)) w) there machine);
      sound = live_sound after (r + 1) new power_new level_new meter_new own.state (subst (λ (m : Memory). IsReady m own.state) (sym same) ready) on at (omega arith)
          (fits next (record { phase = refl; state = own.state; live = refl; knows = own.knows; codes = subst (λ (m : Memory). KnowsCode running.known m.flash own.state) (sym same) own.codes }));
    }

-- it may run, or not
pub second_runs : (flash : List ℕ) (world : World) (running : Running) → (own : IsRunning 1 running flash world) → Valid world.state → is_runnable running.known.figures.layers 2 ≡ true
    → Machine world event.Go (reply.At 2) (record world { phase = ratchet 2 })
second_runs flash world running own valid runs = go_second world own.state (awake_at world 1 own.state own.phase own.live) (known_runs running.known own.state 2 true own.knows (subst Valid own.live valid) runs)

pub third_runs : (flash : List ℕ) (world : World) (running : Running) → (own : IsRunning 2 running flash world) → Valid world.state → is_runnable running.known.figures.layers 3 ≡ true
    → Machine world event.Go (reply.At 3) (record world { phase = ratchet 3 })
third_runs flash world running own valid runs = go_third world own.state (awake_at world 2 own.state own.phase own.live) (known_runs running.known own.state 3 true own.knows (subst Valid own.live valid) runs)

pub no_second : (flash : List ℕ) (world : World) (running : Running) → (own : IsRunning 1 running flash world) → Valid world.state → is_runnable running.known.figures.layers 2 ≡ false → Machine world event.Go (refusal_reply WrongLayer) world
no_second flash world running own valid runs = go_no_second world own.state (awake_at world 1 own.state own.phase own.live) (known_runs running.known own.state 2 false own.knows (subst Valid own.live valid) runs)

pub no_third : (flash : List ℕ) (world : World) (running : Running) → (own : IsRunning 2 running flash world) → Valid world.state → is_runnable running.known.figures.layers 3 ≡ false → Machine world event.Go (refusal_reply WrongLayer) world
no_third flash world running own valid runs = go_no_third world own.state (awake_at world 2 own.state own.phase own.live) (known_runs running.known own.state 3 false own.knows (subst Valid own.live valid) runs)
