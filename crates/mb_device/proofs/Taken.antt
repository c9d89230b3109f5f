-- Events that the board has done by itself as it handed them out: power that goes, tamper, and a cut that is armed.
use Rattle.std.proofs.Common.{◌≡◌, ℕ, List, Bool, true, false, None, Some, refl, sym, ap, subst, ◌∙◌, length}
use Rattle.mb_model.specs.declared.event.Event.{Event}
use Rattle.mb_model.specs.declared.event.Event.TheVariants as event
use Rattle.mb_model.specs.declared.event.Tear.{Tear}
use Rattle.mb_model.specs.declared.reply.Reply.TheVariants as reply
use Rattle.mb_model.specs.outside.Board.{Memory, Meter, Held, phase_at, power_after, memory_after, armed_after}
use Rattle.mb_model.specs.machine.Machine.{Phase, off, World, machine_step}
use Rattle.mb_model.specs.memories.Meaning.{is_dead}
use Rattle.mb_model_lemmas.proofs.WrittenImages.{zeros_blank, length-zeros}
use Rattle.mb_board.specs.Calls.{held_by}
use Rattle.mb_device.specs.declared.device.Device.{Device}
use Rattle.mb_device.specs.declared.device.Device.TheVariants as device
use Rattle.mb_device_orders.specs.declared.remembering.Running.{Running}
use Rattle.mb_device.specs.Sound.{IsSoundDevice, IsRunning, Fits, taken, Steps}
use Rattle.mb_device.specs.Stepping.{IsOff}
use Rattle.mb_device.proofs.Worlds.{off_at}

-- ---- what a board holds that has handed out an event

armed_is : {armed armed_new : Bool} (memory : Memory) (phase : Phase) → armed_new ≡ armed
    → ◌≡◌ {A = Held} (record { memory = memory; phase = phase; armed = armed_new }) (record { memory = memory; phase = phase; armed = armed })
armed_is memory phase same = ap (λ (b : Bool). let h : Held = record { memory = memory; phase = phase; armed = b } in h) same

pub taken_is : (e : Event) (memory : Memory) (power : Bool) (level : ℕ) (meter meter_new : Meter) → meter_new.armed ≡ armed_after (Some e) meter.armed
    → held_by (memory_after (Some e) memory) (power_after (Some e) power) level meter_new ≡ taken e (held_by memory power level meter)
taken_is event.Boot memory power level meter meter_new armed = armed_is memory (phase_at power level) armed
taken_is event.Off memory power level meter meter_new armed = armed_is memory off armed
taken_is event.Tamper memory power level meter meter_new armed = armed_is (memory_after (Some event.Tamper) memory) off armed
taken_is event.Status memory power level meter meter_new armed = armed_is memory (phase_at power level) armed
taken_is event.Go memory power level meter meter_new armed = armed_is memory (phase_at power level) armed
taken_is (event.Cut count tear) memory power level meter meter_new armed = armed_is memory (phase_at power level) armed
taken_is (event.Order text draw) memory power level meter meter_new armed = armed_is memory (phase_at power level) armed
taken_is (event.Put L name value) memory power level meter meter_new armed = armed_is memory (phase_at power level) armed
taken_is (event.Get L name) memory power level meter meter_new armed = armed_is memory (phase_at power level) armed
taken_is (event.Drop L name) memory power level meter meter_new armed = armed_is memory (phase_at power level) armed
taken_is (event.Sign L key message) memory power level meter meter_new armed = armed_is memory (phase_at power level) armed
taken_is (event.Call L key input) memory power level meter meter_new armed = armed_is memory (phase_at power level) armed

-- ---- power that goes

-- a device whose power is off, whatever it was
off_fits : (device : Device) (flash : List ℕ) (world : World) → IsOff device → world.phase ≡ off → Fits device flash world
off_fits (device.Off state) flash world is at = at
off_fits (device.Dead state) flash world is at = absurd is
off_fits (device.One state running) flash world is at = absurd is
off_fits (device.Two state running) flash world is at = absurd is
off_fits (device.Three state running) flash world is at = absurd is

pub goes_off : (before after : Device) (held now : Held) (world : World) → IsSoundDevice before held world → IsOff after → now ≡ taken event.Off held → Steps world event.Off reply.Off after now
goes_off before after held now world sound is_off same = record {
  next = record world { phase = off };
  step = machine_step (refl, refl);
  sound = subst (λ (h : Held). IsSoundDevice after h (record world { phase = off })) (sym same) (record {
    shown = record { stands = sound.shown.stands; phase = refl; armed = sound.shown.armed };
    valid = sound.valid;
    clean = λ on. absurd (on refl);
    fits = off_fits after held.memory.flash (record world { phase = off }) is_off refl;
  });
}

-- ---- tamper

pub is_tampered : (before after : Device) (held now : Held) (world : World) → IsSoundDevice before held world → IsOff after → now ≡ taken event.Tamper held
    → Steps world event.Tamper reply.Tampered after now
is_tampered before after held now world sound is_off same =
    let next : World = record world { phase = off; state = None } in
    let memory : Memory = memory_after (Some event.Tamper) held.memory in
    record {
      next = next;
      step = machine_step (refl, refl);
      sound = subst (λ (h : Held). IsSoundDevice after h next) (sym same) (record {
        shown = record {
          stands = record {
            sized = record { flash = sound.shown.stands.sized.flash; bbram = length-zeros (length held.memory.bbram) ∙ sound.shown.stands.sized.bbram };
            meaning = is_dead (zeros_blank (length held.memory.bbram)) refl;
          };
          phase = refl;
          armed = sound.shown.armed;
        };
        valid = tt;
        clean = λ on. absurd (on refl);
        fits = off_fits after memory.flash next is_off refl;
      });
    }

-- ---- a cut

still_runs : (r : ℕ) (running : Running) (flash : List ℕ) (world : World) → IsRunning r running flash world → IsRunning r running flash (record world { armed = true })
still_runs r running flash world own = record { phase = own.phase; state = own.state; live = own.live; knows = own.knows; codes = own.codes }

still_fits : (device : Device) (flash : List ℕ) (world : World) → Fits device flash world → Fits device flash (record world { armed = true })
still_fits (device.Off state) flash world fits = fits
still_fits (device.Dead state) flash world fits = fits
still_fits (device.One state running) flash world fits = still_runs 1 running flash world fits
still_fits (device.Two state running) flash world fits = still_runs 2 running flash world fits
still_fits (device.Three state running) flash world fits = still_runs 3 running flash world fits

pub is_armed : (device : Device) (held now : Held) (world : World) (count : ℕ) (tear : Tear) → IsSoundDevice device held world → now ≡ taken (event.Cut count tear) held
    → Steps world (event.Cut count tear) reply.Armed device now
is_armed device held now world count tear sound same = record {
  next = record world { armed = true };
  step = machine_step (refl, refl);
  sound = subst (λ (h : Held). IsSoundDevice device h (record world { armed = true })) (sym same) (record {
    shown = record { stands = sound.shown.stands; phase = sound.shown.phase; armed = refl };
    valid = sound.valid;
    clean = sound.clean;
    fits = still_fits device held.memory.flash world sound.fits;
  });
}

-- ---- by the clauses of the board

-- what a board holds whose parts are as they were
pub same_parts : (old new : Memory) (power power_new : Bool) (level level_new : ℕ) (meter meter_new : Meter) → new ≡ old → power_new ≡ power → level_new ≡ level → meter_new.armed ≡ meter.armed
    → held_by new power_new level_new meter_new ≡ held_by old power level meter
same_parts old new power power_new level level_new meter meter_new memory is_power is_level armed =
    ap (λ (m : Memory). let h : Held = record { memory = m; phase = phase_at power_new level_new; armed = meter_new.armed } in h) memory
    ∙ ap (λ (p : Bool). let h : Held = record { memory = old; phase = phase_at p level_new; armed = meter_new.armed } in h) is_power
    ∙ ap (λ (l : ℕ). let h : Held = record { memory = old; phase = phase_at power l; armed = meter_new.armed } in h) is_level
    ∙ ap (λ (b : Bool). let h : Held = record { memory = old; phase = phase_at power level; armed = b } in h) armed

pub taken_by : (e : Event) (old new : Memory) (power power_new : Bool) (level level_new : ℕ) (meter meter_new : Meter) → new ≡ memory_after (Some e) old → power_new ≡ power_after (Some e) power
    → level_new ≡ level → meter_new.armed ≡ armed_after (Some e) meter.armed → held_by new power_new level_new meter_new ≡ taken e (held_by old power level meter)
taken_by e old new power power_new level level_new meter meter_new memory is_power is_level armed =
    let between : Meter = record meter { armed = armed_after (Some e) meter.armed } in
    same_parts (memory_after (Some e) old) new (power_after (Some e) power) power_new level level_new between meter_new memory is_power is_level armed
    ∙ taken_is e old power level meter between refl

-- what a board holds whose power has gone
pub off_same : (old new : Memory) (power power_new : Bool) (level level_new : ℕ) (meter meter_new : Meter) (h : Held) → held_by old power level meter ≡ h → h.phase ≡ off → new ≡ old → power_new ≡ false
    → meter_new ≡ meter → held_by new power_new level_new meter_new ≡ h
off_same old new power power_new level level_new meter meter_new h same is_off memory gone counts =
    ap (λ (m : Memory). let x : Held = record { memory = m; phase = phase_at power_new level_new; armed = meter_new.armed } in x) memory
    ∙ ap (λ (p : Phase). let x : Held = record { memory = old; phase = p; armed = meter_new.armed } in x) (off_at power_new level_new gone ∙ sym (ap (λ (x : Held). x.phase) same ∙ is_off))
    ∙ ap (λ (m : Meter). let x : Held = record { memory = old; phase = phase_at power level; armed = m.armed } in x) counts
    ∙ same
