-- What a boot comes to.
use Rattle.std.proofs.Common.{◌≡◌, ℕ, List, Bool, true, false, Option, None, Some, refl, sym, ap, subst, ◌∙◌, inl, arith}
use Rattle.std.specs.Option.{is_none}
use Rattle.mb_ratchet.specs.declared.state.Off.{Off}
use Rattle.mb_ratchet.specs.declared.state.Dead.{Dead}
use Rattle.mb_ratchet.specs.declared.state.Up.{Up}
use Rattle.mb_ratchet.specs.declared.state.R1.{R1}
use Rattle.mb_model.specs.declared.event.Event.TheVariants as event
use Rattle.mb_model.specs.declared.reply.Reply.{Reply}
use Rattle.mb_model.specs.declared.reply.Reply.TheVariants as reply
use Rattle.mb_model.specs.declared.state.State.{State}
use Rattle.mb_model.specs.outside.Board.{Memory, Meter, phase_at}
use Rattle.mb_model.specs.memories.Clean.{Clean}
use Rattle.mb_model.specs.machine.Machine.{Phase, off, dead, ratchet, World, Machine, machine_step, lacks_memory}
use Rattle.mb_model.specs.memories.Meaning.{StandsFor, HasMeaning, is_dead, is_live}
use Rattle.mb_model.specs.memories.Memory.{IsBlank}
use Rattle.mb_model.specs.declared.reply.Refusal.TheVariants.{Zeroised}
use Rattle.mb_model.specs.machine.Refusals.{refusal_reply}
use Rattle.mb_model.specs.memories.Valid.{Valid}
use Rattle.mb_board.specs.Calls.{held_by}
use Rattle.mb_model_memory.specs.Holding.{Means, IsReady}
use Rattle.mb_device_orders.specs.Remembering.{Knows, KnowsCode}
use Rattle.mb_boot.specs.Booting.{Cleans, KeepsState}
use Rattle.mb_device.specs.declared.device.Device.TheVariants as device
use Rattle.mb_device_orders.specs.declared.remembering.Running.{Running}
use Rattle.mb_device.specs.Sound.{IsSoundDevice, Steps}
use Rattle.mb_device.proofs.Worlds.{boot_live, boot_none}
use Rattle.mb_device.proofs.Steps.{live_world, live_sound, off_sound, cut_short}

-- ---- whether the device was found dead

live_by : (o : Option State) → false ≡ is_none o → (state : State) × (o ≡ Some state)
live_by None e = absurd (cc)
live_by (Some state) e = (state, refl)

none_by : (o : Option State) → true ≡ is_none o → o ≡ None
none_by None e = refl
none_by (Some state) e = absurd (cc)

at_dead : (power : Bool) (level : ℕ) → power ≡ true → level ≡ 0 → phase_at power level ≡ dead
at_dead power level on low = subst (λ (p : Bool). phase_at p level ≡ dead) (sym on) (subst (λ (l : ℕ). phase_at true l ≡ dead) (sym low) refl)

blank_by : (flash bbram : List ℕ) (o : Option State) → o ≡ None → HasMeaning flash bbram o → IsBlank bbram
blank_by flash bbram o none (is_dead blank same) = blank
blank_by flash bbram o none (is_live contents holds index live) = absurd (cc)

-- a memory that stands for a dead device is clean for it
dead_is_clean : (memory : Memory) → StandsFor memory.flash memory.bbram None → Clean memory.bbram None
dead_is_clean memory stands = (stands.sized.bbram, blank_by memory.flash memory.bbram None refl stands.meaning)

-- a device that has come up is ready with the state for which its memory stood
pub record IsBooted (world : World) (memory : Memory) : Type 0 where
  pub state : State
  pub live : world.state ≡ Some state
  pub ready : IsReady memory state

the_off : (world : World) (state : State) (armed : Bool) → world.phase ≡ off → world.state ≡ Some state → world.armed ≡ armed → world ≡ record { state = Some state; phase = off; armed = armed }
the_off world state armed is live same =
    ap (λ (o : Option State). let w : World = record { state = o; phase = world.phase; armed = world.armed } in w) live
    ∙ ap (λ (p : Phase). let w : World = record { state = Some state; phase = p; armed = world.armed } in w) is
    ∙ ap (λ (b : Bool). let w : World = record { state = Some state; phase = off; armed = b } in w) same

module _ (state : Off) (before : Memory) (power : Bool) (level : ℕ) (meter : Meter) (world : World)
    (sound : IsSoundDevice (device.Off state) (held_by before power level meter) world) where
  pub is_booted : (after : Memory) → Cleans before after → KeepsState before after
      → ((o : Option State) → StandsFor before.flash before.bbram o → false ≡ is_none o) → IsBooted world after
  is_booted after clean kept found =
      let live = live_by world.state (found world.state sound.shown.stands) in
      let means : Means before live.0 = subst (λ (o : Option State). StandsFor before.flash before.bbram o) live.1 sound.shown.stands in
      record {
        state = live.0;
        live = live.1;
        ready = record { means = kept.kept (Some live.0) means; valid = subst Valid live.1 sound.valid; clean = clean.cleans live.0 means };
      }

  -- it has come up
  pub boots : (up : Up R1) (running : Running) (after : Memory) (on : Bool) (high : ℕ) (counted : Meter) → (booted : IsBooted world after)
      → ((live : State) → IsReady after live → Knows running.known live) → ((live : State) → IsReady after live → KnowsCode running.known after.flash live) → on ≡ true → high ≡ 1 → counted.armed ≡ meter.armed
      → Steps world event.Boot reply.Booted (device.One up running) (held_by after on high counted)
  boots up running after on high counted booted knows codes is_on is_high armed =
      let same : world ≡ record { state = Some booted.state; phase = off; armed = counted.armed } = the_off world booted.state counted.armed sound.fits booted.live (sound.shown.armed ∙ sym armed) in
      subst (λ (w : World). Steps w event.Boot reply.Booted (device.One up running) (held_by after on high counted)) (sym same)
      (record {
        next = live_world 1 booted.state counted.armed;
        step = machine_step (boot_live (record { state = Some booted.state; phase = off; armed = counted.armed }) booted.state refl refl);
        sound = live_sound (device.One up running) 1 after on high counted booted.state booted.ready is_on is_high (omega arith)
            (record { phase = refl; state = booted.state; live = refl; knows = knows booted.state booted.ready; codes = codes booted.state booted.ready });
      })

  -- power failed
  pub boot_stopped : (off_again : Off) (after : Memory) (on : Bool) (high : ℕ) (counted : Meter) → KeepsState before after
      → ((o : Option State) → StandsFor before.flash before.bbram o → false ≡ is_none o) → on ≡ false → counted.armed ≡ false → meter.armed ≡ true
      → Steps world event.Boot reply.Stopped (device.Off off_again) (held_by after on high counted)
  boot_stopped off_again after on high counted kept found gone disarmed armed =
      let live = live_by world.state (found world.state sound.shown.stands) in
      cut_short off_again world event.Boot reply.Booted (record world { phase = ratchet 1 }) world.state after on high counted
      (boot_live world live.0 sound.fits live.1) (sound.shown.armed ∙ armed) refl (inl refl) (kept.kept world.state sound.shown.stands) sound.valid gone disarmed

  -- it was found dead
  pub boot_found_dead : (corpse : Dead) (answer : Reply) (after : Memory) (on : Bool) (high : ℕ) (counted : Meter) → answer ≡ refusal_reply Zeroised → after ≡ before
      → ((o : Option State) → StandsFor before.flash before.bbram o → true ≡ is_none o) → on ≡ true → high ≡ 0 → counted ≡ meter
      → Steps world event.Boot answer (device.Dead corpse) (held_by after on high counted)
  boot_found_dead corpse answer after on high counted is same found is_on is_low counts =
      let none : world.state ≡ None = none_by world.state (found world.state sound.shown.stands) in
      let stands : StandsFor after.flash after.bbram world.state = subst (λ (m : Memory). StandsFor m.flash m.bbram world.state) (sym same) sound.shown.stands in
      record {
        next = record world { phase = dead };
        step = machine_step (subst (λ (a : Reply). Machine world event.Boot a (record world { phase = dead })) (sym is) (boot_none world sound.fits none));
        sound = record {
          shown = record { stands = stands; phase = sym (at_dead on high is_on is_low); armed = sound.shown.armed ∙ sym (ap (λ (m : Meter). m.armed) counts) };
          valid = sound.valid;
          clean = λ is_not_off. subst (Clean after.bbram) (sym none) (dead_is_clean after (subst (λ (o : Option State). StandsFor after.flash after.bbram o) none stands));
          fits = refl;
        };
      }

  -- memory was wanted
  pub boot_lacks : (off_again : Off) (after : Memory) (on : Bool) (high : ℕ) (counted : Meter) → after ≡ before → on ≡ false → counted ≡ meter
      → Steps world event.Boot reply.NoMemory (device.Off off_again) (held_by after on high counted)
  boot_lacks off_again after on high counted same gone counts = record {
    next = world;
    step = lacks_memory (record { answered = refl; wanted = refl; stays = refl });
    sound = off_sound off_again after on high counted world (subst (λ (m : Memory). StandsFor m.flash m.bbram world.state) (sym same) sound.shown.stands) sound.valid gone sound.fits
        (sound.shown.armed ∙ sym (ap (λ (m : Meter). m.armed) counts));
  }
