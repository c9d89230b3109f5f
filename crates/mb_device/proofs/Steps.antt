-- How an answer of the device is one step of the machine.
use Rattle.std.proofs.Common.{◌≡◌, ℕ, ◌≤◌, Bool, true, false, Option, Some, refl, sym, ap, subst, ◌∙◌}
use Rattle.std.specs.Prelude.{IsTrue, ◌⊎◌}
use Rattle.mb_ratchet.specs.declared.state.Off.{Off}
use Rattle.mb_model.specs.declared.event.Event.{Event}
use Rattle.mb_model.specs.declared.reply.Reply.{Reply}
use Rattle.mb_model.specs.declared.reply.Reply.TheVariants as reply
use Rattle.mb_model.specs.declared.state.State.{State}
use Rattle.mb_model.specs.outside.Board.{Memory, Meter, Held}
use Rattle.mb_model.specs.memories.Clean.{Clean}
use Rattle.mb_model.specs.machine.Machine.{Phase, off, ratchet, World, Machine, may_want_memory, may_be_cut, machine_step, lacks_memory, loses_power}
use Rattle.mb_model.specs.memories.Meaning.{StandsFor}
use Rattle.mb_model.specs.declared.reply.Refusal.{Refusal}
use Rattle.mb_model.specs.machine.Refusals.{refusal_reply}
use Rattle.mb_model.specs.memories.Valid.{Valid}
use Rattle.mb_board.specs.Calls.{held_by}
use Rattle.mb_model_memory.specs.Holding.{IsReady}
use Rattle.mb_device.specs.declared.device.Device.{Device}
use Rattle.mb_device.specs.declared.device.Device.TheVariants as device
use Rattle.mb_device.specs.Sound.{IsSoundDevice, Fits, Steps}
use Rattle.mb_device.proofs.Worlds.{ratchet_at, off_at}

-- ---- worlds by their parts

abbrev pub live_world : ℕ → State → Bool → World
live_world r state armed = record { state = Some state; phase = ratchet r; armed = armed }

abbrev pub off_world : Option State → World
off_world state = record { state = state; phase = off; armed = false }

pub the_world : (world : World) (r : ℕ) (state : State) → world.phase ≡ ratchet r → world.state ≡ Some state → world ≡ live_world r state world.armed
the_world world r state is live =
    ap (λ (o : Option State). let w : World = record { state = o; phase = world.phase; armed = world.armed } in w) live
    ∙ ap (λ (p : Phase). let w : World = record { state = Some state; phase = p; armed = world.armed } in w) is

-- ---- what is sound

-- a device that runs layer r, whose memory is ready with this state
pub live_sound : (after : Device) (r : ℕ) (memory : Memory) (power : Bool) (level : ℕ) (meter : Meter) (state : State) → IsReady memory state → power ≡ true → level ≡ r → 1 ≤ r
    → Fits after memory.flash (live_world r state meter.armed) → IsSoundDevice after (held_by memory power level meter) (live_world r state meter.armed)
live_sound after r memory power level meter state ready on at some fits = record {
  shown = record { stands = ready.means; phase = sym (ratchet_at power level r on at some); armed = refl };
  valid = ready.valid;
  clean = λ is_on. ready.clean;
  fits = fits;
}

-- a device whose power is off
pub off_sound : (state : Off) (memory : Memory) (power : Bool) (level : ℕ) (meter : Meter) (world : World) → StandsFor memory.flash memory.bbram world.state → Valid world.state → power ≡ false
    → world.phase ≡ off → world.armed ≡ meter.armed → IsSoundDevice (device.Off state) (held_by memory power level meter) world
off_sound state memory power level meter world stands valid gone is_off armed = record {
  shown = record { stands = stands; phase = is_off ∙ sym (off_at power level gone); armed = armed };
  valid = valid;
  clean = λ on. absurd (on (off_at power level gone));
  fits = is_off;
}

-- its memory is ready
off_not_ratchet : (r : ℕ) → ratchet r ≡ off → ⊥
off_not_ratchet r e = cc

pub running_ready : (device : Device) (r : ℕ) (held : Held) (world : World) (state : State) → IsSoundDevice device held world → world.phase ≡ ratchet r → world.state ≡ Some state
    → IsReady held.memory state
running_ready device r held world state sound is live = record {
  means = subst (λ (o : Option State). StandsFor held.memory.flash held.memory.bbram o) live sound.shown.stands;
  valid = subst Valid live sound.valid;
  clean = subst (Clean held.memory.bbram) live (sound.clean (λ e. off_not_ratchet r (sym is ∙ sound.shown.phase ∙ e)));
}

-- ---- steps

-- an answer by which nothing changes
pub stays : (before after : Device) (held : Held) (world : World) (e : Event) (answer : Reply) → Machine world e answer world → IsSoundDevice before held world → Fits after held.memory.flash world
    → Steps world e answer after held
stays before after held world e answer machine sound fits = record {
  next = world;
  step = machine_step machine;
  sound = record { shown = sound.shown; valid = sound.valid; clean = sound.clean; fits = fits };
}

-- a refusal by which nothing changes
pub refuses : (before after : Device) (held : Held) (world : World) (e : Event) (answer : Reply) (refusal : Refusal) → answer ≡ refusal_reply refusal → Machine world e (refusal_reply refusal) world
    → IsSoundDevice before held world → Fits after held.memory.flash world → Steps world e answer after held
refuses before after held world e answer refusal is machine sound fits = stays before after held world e answer (subst (λ (a : Reply). Machine world e a world) (sym is) machine) sound fits

-- memory was wanted, and nothing has changed
pub lacks : (before after : Device) (held now : Held) (world : World) (e : Event) (answer : Reply) → answer ≡ reply.NoMemory → IsTrue (may_want_memory e) → now ≡ held
    → IsSoundDevice before held world → Fits after held.memory.flash world → Steps world e answer after now
lacks before after held now world e answer is wants same sound fits = record {
  next = world;
  step = lacks_memory (record { answered = is; wanted = wants; stays = refl });
  sound = subst (λ (h : Held). IsSoundDevice after h world) (sym same) (record { shown = sound.shown; valid = sound.valid; clean = sound.clean; fits = fits });
}

-- power failed: the event counts wholly or not at all
pub cut_short : (state : Off) (world : World) (e : Event) (told : Reply) (whole : World) (left : Option State) (memory : Memory) (power : Bool) (level : ℕ) (meter : Meter)
    → Machine world e told whole → world.armed ≡ true → IsTrue (may_be_cut told) → (left ≡ world.state) ⊎ (left ≡ whole.state) → StandsFor memory.flash memory.bbram left
    → Valid left → power ≡ false → meter.armed ≡ false → Steps world e reply.Stopped (device.Off state) (held_by memory power level meter)
cut_short state world e told whole left memory power level meter machine armed writes counts stands valid gone disarmed = record {
  next = off_world left;
  step = loses_power (record {
    told = told;
    whole = whole;
    machine = machine;
    armed = armed;
    writes = writes;
    state = left;
    counts = counts;
    answered = refl;
    follows = refl;
  });
  sound = off_sound state memory power level meter (off_world left) stands valid gone refl (sym disarmed);
}

-- a refusal of a device that is as it was
pub refuses_as : (before after : Device) (held : Held) (world : World) (e : Event) (answer : Reply) (refusal : Refusal) → before ≡ after → answer ≡ refusal_reply refusal
    → IsSoundDevice before held world → (Fits after held.memory.flash world → Machine world e (refusal_reply refusal) world) → Steps world e answer after held
refuses_as before after held world e answer refusal same is sound machine =
    let own : IsSoundDevice after held world = subst (λ (d : Device). IsSoundDevice d held world) same sound in
    refuses after after held world e answer refusal is (machine own.fits) own own.fits
