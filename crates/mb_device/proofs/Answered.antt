-- What the answers of a device have in common: those that change nothing, and those that are handed on.
use Rattle.std.proofs.Common.{◌≡◌, ℕ, ◌≤◌, List, false, Err, refl, sym, ap, subst, ◌∙◌, arith}
use Rattle.std.specs.Prelude.{Ok}
use Rattle.mb_board.specs.Calls.{Seen, IsMetered, IsSwitched, held_in}
use Rattle.mb_boot.specs.Booting.{IsQuiet}
use Rattle.mb_device_orders.proofs.Spared.{same_memory_spared}
use Rattle.mb_model.specs.chains.Listing.{is_done}
use Rattle.mb_model.specs.declared.event.Event.{Event}
use Rattle.mb_model.specs.declared.event.Event.TheVariants as event
use Rattle.mb_model.specs.declared.reply.Refusal.{Refusal}
use Rattle.mb_model.specs.declared.reply.Reply.{Reply}
use Rattle.mb_model.specs.declared.reply.Reply.TheVariants as reply
use Rattle.mb_model.specs.machine.Machine.{World, Machine, may_be_cut, may_have_written}
use Rattle.mb_model.specs.machine.Refusals.{refusal_reply}
use Rattle.mb_model.specs.outside.Board.{Held, Meter}
use Rattle.mb_device.specs.Calls.{Answers}
use Rattle.mb_device.specs.declared.device.Device.{Device}
use Rattle.mb_device.specs.KeptTrees.{KeepsItsTrees, KeepsTreeOnceDone, MakesKeysOf}
use Rattle.mb_device.specs.Regions.{IsLayerEvent}
use Rattle.mb_device.specs.Sound.{IsSoundDevice, taken, Steps}
use Rattle.mb_device.specs.Stepping.{stop_told, IfBoot}
use Rattle.mb_device.proofs.Steps.{refuses}
use Rattle.mb_device.proofs.Trees.{trees_refused, refused_undone}
use Rattle.mb_device.proofs.Uses.{unmetered}

-- ---- by cases on events and on answers

pub if_boot : (e : Event) (P : Type 0) → P → IfBoot e P
if_boot event.Boot P is = is
if_boot event.Off P is = tt
if_boot event.Tamper P is = tt
if_boot event.Status P is = tt
if_boot event.Go P is = tt
if_boot (event.Cut count tear) P is = tt
if_boot (event.Order text draw) P is = tt
if_boot (event.Put M name value) P is = tt
if_boot (event.Get M name) P is = tt
if_boot (event.Drop M name) P is = tt
if_boot (event.Sign M key message) P is = tt
if_boot (event.Call M key input) P is = tt

pub undone_kept : (e : Event) (answer : Reply) (after : Device) → is_done answer ≡ false → KeepsTreeOnceDone e answer after
undone_kept event.Boot answer after undone = tt
undone_kept event.Off answer after undone = tt
undone_kept event.Tamper answer after undone = tt
undone_kept event.Status answer after undone = tt
undone_kept event.Go answer after undone = tt
undone_kept (event.Cut count tear) answer after undone = tt
undone_kept (event.Order text draw) answer after undone = λ done. absurd (cc)
undone_kept (event.Put M name value) answer after undone = tt
undone_kept (event.Get M name) answer after undone = tt
undone_kept (event.Drop M name) answer after undone = tt
undone_kept (event.Sign M key message) answer after undone = tt
undone_kept (event.Call M key input) answer after undone = tt

-- of a layer's use of its region nothing is said that is of boots and orders
pub layer_boots_none : (e : Event) (P : Type 0) → IsLayerEvent e → IfBoot e P
layer_boots_none event.Boot P is = absurd is
layer_boots_none event.Off P is = absurd is
layer_boots_none event.Tamper P is = absurd is
layer_boots_none event.Status P is = absurd is
layer_boots_none event.Go P is = absurd is
layer_boots_none (event.Cut count tear) P is = absurd is
layer_boots_none (event.Order text draw) P is = absurd is
layer_boots_none (event.Put M name value) P is = tt
layer_boots_none (event.Get M name) P is = tt
layer_boots_none (event.Drop M name) P is = tt
layer_boots_none (event.Sign M key message) P is = tt
layer_boots_none (event.Call M key input) P is = absurd is

pub layer_done_none : (e : Event) (answer : Reply) (after : Device) → IsLayerEvent e → KeepsTreeOnceDone e answer after
layer_done_none event.Boot answer after is = absurd is
layer_done_none event.Off answer after is = absurd is
layer_done_none event.Tamper answer after is = absurd is
layer_done_none event.Status answer after is = absurd is
layer_done_none event.Go answer after is = absurd is
layer_done_none (event.Cut count tear) answer after is = absurd is
layer_done_none (event.Order text draw) answer after is = absurd is
layer_done_none (event.Put M name value) answer after is = tt
layer_done_none (event.Get M name) answer after is = tt
layer_done_none (event.Drop M name) answer after is = tt
layer_done_none (event.Sign M key message) answer after is = tt
layer_done_none (event.Call M key input) answer after is = absurd is

pub layer_makes_none : (e : Event) (world : World) (keys : ℕ) → IsLayerEvent e → MakesKeysOf world e keys → ⊥
layer_makes_none event.Boot world keys is makes = absurd is
layer_makes_none event.Off world keys is makes = absurd is
layer_makes_none event.Tamper world keys is makes = absurd is
layer_makes_none event.Status world keys is makes = absurd is
layer_makes_none event.Go world keys is makes = absurd is
layer_makes_none (event.Cut count tear) world keys is makes = absurd is
layer_makes_none (event.Order text draw) world keys is makes = absurd is
layer_makes_none (event.Put M name value) world keys is makes = makes
layer_makes_none (event.Get M name) world keys is makes = makes
layer_makes_none (event.Drop M name) world keys is makes = makes
layer_makes_none (event.Sign M key message) world keys is makes = makes
layer_makes_none (event.Call M key input) world keys is makes = absurd is

pub uncut : (answer : Reply) → may_have_written answer ≡ false → may_be_cut answer ≡ false
uncut reply.Booted unwritten = unwritten
uncut reply.Off unwritten = unwritten
uncut reply.Tampered unwritten = unwritten
uncut reply.Armed unwritten = unwritten
uncut (reply.At layer) unwritten = unwritten
uncut (reply.Done number size) unwritten = unwritten
uncut reply.Kept unwritten = unwritten
uncut reply.Dropped unwritten = unwritten
uncut (reply.Value value) unwritten = unwritten
uncut reply.Absent unwritten = unwritten
uncut (reply.Signed key index statement) unwritten = unwritten
uncut (reply.Called value) unwritten = unwritten
uncut (reply.Status serial number size one two three) unwritten = unwritten
uncut (reply.Refused number) unwritten = unwritten
uncut reply.Stopped unwritten = refl
uncut reply.NoMemory unwritten = unwritten

-- ---- what a board holds that has handed out an event

pub layer_taken : (e : Event) → IsLayerEvent e → (held : Held) → taken e held ≡ held
layer_taken event.Boot is held = absurd is
layer_taken event.Off is held = absurd is
layer_taken event.Tamper is held = absurd is
layer_taken event.Status is held = absurd is
layer_taken event.Go is held = absurd is
layer_taken (event.Cut count tear) is held = absurd is
layer_taken (event.Order text draw) is held = absurd is
layer_taken (event.Put M name value) is held = refl
layer_taken (event.Get M name) is held = refl
layer_taken (event.Drop M name) is held = refl
layer_taken (event.Sign M key message) is held = refl
layer_taken (event.Call M key input) is held = absurd is

-- the answer is a step from what the board held before it handed out the event
abbrev pub StepsTaken : Device → Event → Reply → Device → Held → Held → Type 0
StepsTaken before e answer after now new = (earlier : Held) (world : World) → IsSoundDevice before earlier world → now ≡ taken e earlier → Steps world e answer after new

pub sound_taken : (e : Event) {before : Device} {now earlier : Held} {world : World} → ((held : Held) → taken e held ≡ held) → now ≡ taken e earlier → IsSoundDevice before earlier world → IsSoundDevice before now world
sound_taken e {before} {now} {earlier} {world} still same sound = subst (λ (h : Held). IsSoundDevice before h world) (sym (same ∙ still earlier)) sound

pub as_taken : (e : Event) {before after : Device} {answer : Reply} {now new : Held} → ((held : Held) → taken e held ≡ held) → ((world : World) → IsSoundDevice before now world → Steps world e answer after new)
    → StepsTaken before e answer after now new
as_taken e still steps = λ earlier world sound same. steps world (sound_taken e still same sound)

-- ---- answers that change nothing but power and level

pub switches : (n limit : ℕ) (before after : Device) (e : Event) (answer : Reply) (old new : Seen) (hashes : ℕ) → IsSwitched old new → stop_told answer ≡ Ok tt
    → KeepsItsTrees before e answer after → KeepsTreeOnceDone e answer after → StepsTaken before e answer after (held_in old) (held_in new)
    → Answers n limit before e (after, answer) old new hashes hashes
switches n limit before after e answer old new hashes switched goes_on trees done steps = record {
  steps = steps;
  untold = λ unwritten. (switched.memory, switched.meter);
  quiet = if_boot e (IsQuiet old.memory new.memory old.meter new.meter) (record { quiet = λ state clean. (switched.memory, switched.meter) });
  spared = same_memory_spared old.memory new.memory switched.memory;
  events = record { ledger = switched.ledger; meter = unmetered n answer old.meter new.meter goes_on switched.meter };
  trees = trees;
  done = done;
  order = λ earlier world keys sound same makes has. omega arith;
  cost = omega arith;
  again = λ own. omega arith;
}

-- a refusal of a device that is as it was
pub refused : (n limit : ℕ) (before after : Device) (e : Event) (answer : Reply) (refusal : Refusal) (seen : Seen) (hashes : ℕ) → before ≡ after → answer ≡ refusal_reply refusal
    → ((held : Held) → taken e held ≡ held) → ((world : World) → IsSoundDevice after (held_in seen) world → Steps world e answer after (held_in seen))
    → Answers n limit before e (after, answer) seen seen hashes hashes
refused n limit before after e answer refusal seen hashes same told still steps =
    subst (λ (device : Device). Answers n limit device e (after, answer) seen seen hashes hashes) (sym same)
    (switches n limit after after e answer seen seen hashes (record { memory = refl; ledger = refl; meter = refl }) (ap stop_told told)
    (trees_refused after after after e answer refusal refl refl told) (undone_kept e answer after (refused_undone refusal answer told)) (as_taken e still steps))

-- one that the machine makes too
pub refused_by : (n limit : ℕ) (before after : Device) (e : Event) (answer : Reply) (refusal : Refusal) (seen : Seen) (hashes : ℕ) → before ≡ after → answer ≡ refusal_reply refusal
    → ((held : Held) → taken e held ≡ held) → ((world : World) → IsSoundDevice after (held_in seen) world → Machine world e (refusal_reply refusal) world)
    → Answers n limit before e (after, answer) seen seen hashes hashes
refused_by n limit before after e answer refusal seen hashes same told still machine =
    refused n limit before after e answer refusal seen hashes same told still (λ world sound. refuses after after (held_in seen) world e answer refusal told (machine world sound) sound sound.fits)

-- ---- answers that are handed on

pub of_device : {n limit : ℕ} {before own : Device} {e : Event} {told : Device × Reply} {old new : Seen} {hashes hashes_after : ℕ} → before ≡ own
    → Answers n limit own e told old new hashes hashes_after → Answers n limit before e told old new hashes hashes_after
of_device {n} {limit} {before} {own} {e} {told} {old} {new} {hashes} {hashes_after} same is =
    subst (λ (device : Device). Answers n limit device e told old new hashes hashes_after) (sym same) is

-- within larger bounds, and of the event that was handed out
pub answers_more : {n m limit most : ℕ} {before : Device} {e own : Event} {told : Device × Reply} {old new : Seen} {hashes hashes_after : ℕ} → n ≤ m → limit ≤ most → e ≡ own
    → Answers n limit before own told old new hashes hashes_after → Answers m most before e told old new hashes hashes_after
answers_more {n} {m} {limit} {most} {before} {e} {own} {told} {old} {new} {hashes} {hashes_after} fewer cheaper same is =
    subst (λ (x : Event). Answers m most before x told old new hashes hashes_after) (sym same)
    (record {
      steps = is.steps;
      untold = is.untold;
      quiet = is.quiet;
      spared = is.spared;
      events = record {
        ledger = is.events.ledger;
        meter = record { armed = is.events.meter.armed; stops = is.events.meter.stops; writes = omega (arith, fewer, is.events.meter.writes); cut = is.events.meter.cut };
      };
      trees = is.trees;
      done = is.done;
      order = is.order;
      cost = omega (arith, cheaper, is.cost);
      again = is.again;
    })

-- the order whose bytes were taken as a slice
pub sliced : {e : Event} {text slice draw : List ℕ} → e ≡ event.Order text draw → slice ≡ text → e ≡ event.Order slice draw
sliced {e} {text} {slice} {draw} is same = is ∙ ap (λ (xs : List ℕ). event.Order xs draw) (sym same)

-- calls that were stopped count as much for the answer
pub stopped_by : {A E : Type 0} (n : ℕ) (stop : E) (before after : Meter) → IsMetered n {A = A} {E = E} (Err stop) before after → IsMetered n {A = Unit {0}} {E = Unit {0}} (Err tt) before after
stopped_by n stop before after metered = record { armed = metered.armed; stops = metered.stops; writes = metered.writes; cut = metered.cut }
