use Rattle.std.proofs.Common.{ap, refl}
use Rattle.mb_model.specs.declared.event.Event.TheVariants as event
use Rattle.mb_model.specs.declared.reply.Reply.TheVariants as reply
use Rattle.mb_board.specs.Calls.{held_in}
use Rattle.mb_device.specs.declared.device.Device.TheVariants as device
use Rattle.mb_device.specs.Stepping.{stop_told}
use Rattle.mb_device.proofs.Answered.{as_taken, switches}
use Rattle.mb_device.proofs.Boots.{is_booted, boots, boot_stopped, boot_found_dead, boot_lacks}
use Rattle.mb_device.proofs.Steps.{lacks}
use Rattle.mb_device.proofs.Trees.{no_trees_off}
use Rattle.mb_device.proofs.Uses.{unmetered}
use Rattle.mb_device.proofs.power.come_up.Goals as goal

pub remember-known-requires-clause-up : goal.remember-known-requires-clause-up
remember-known-requires-clause-up g c =
    let has = c.requires.sound in
    record {
      on = c.in-Ok-boot.ensures.power;
      at_level = c.in-Ok-boot.ensures.level;
      loaded = (is_booted c.args.off (g.B.Board.seen c.args.b.now).memory (g.B.Board.seen c.args.b.now).power (g.B.Board.seen c.args.b.now).level (g.B.Board.seen c.args.b.now).meter has.world has.sound (g.B.Board.seen c.boot.new.b).memory c.in-Ok-boot.ensures.clean c.boot.ensures.meaning c.in-Ok-boot.ensures.zeroised).ready.means.sized;
    }

pub remember-known-requires-clause-ready : goal.remember-known-requires-clause-ready
remember-known-requires-clause-ready g c =
    let has = c.requires.sound in
    let booted = is_booted c.args.off (g.B.Board.seen c.args.b.now).memory (g.B.Board.seen c.args.b.now).power (g.B.Board.seen c.args.b.now).level (g.B.Board.seen c.args.b.now).meter has.world has.sound (g.B.Board.seen c.boot.new.b).memory c.in-Ok-boot.ensures.clean c.boot.ensures.meaning c.in-Ok-boot.ensures.zeroised in
    record { state = booted.state; ready = booted.ready }

pub returns-in-Err : goal.returns-in-Err
returns-in-Err g c =
    switches _ _ (device.Off c.args.off) (device.Off c.args.off) event.Boot reply.NoMemory (g.B.Board.seen c.args.b.now) (g.B.Board.seen c.args.b.now) c.args.hashes.now (record { memory = refl; ledger = refl; meter = refl }) refl
    (no_trees_off (device.Off c.args.off) (device.Off c.args.off) c.args.off event.Boot reply.NoMemory refl tt) tt
    (as_taken event.Boot (λ held. refl) (λ world sound. lacks (device.Off c.args.off) (device.Off c.args.off) (held_in (g.B.Board.seen c.args.b.now)) (held_in (g.B.Board.seen c.args.b.now)) world event.Boot reply.NoMemory refl refl refl sound sound.fits))

pub returns-in-Ok-boot : goal.returns-in-Ok-boot
returns-in-Ok-boot g c = record {
  steps = as_taken event.Boot (λ held. refl) (λ world sound.
      let booted = is_booted c.args.off (g.B.Board.seen c.args.b.now).memory (g.B.Board.seen c.args.b.now).power (g.B.Board.seen c.args.b.now).level (g.B.Board.seen c.args.b.now).meter world sound (g.B.Board.seen c.boot.new.b).memory c.in-Ok-boot.ensures.clean c.boot.ensures.meaning c.in-Ok-boot.ensures.zeroised in
      boots c.args.off (g.B.Board.seen c.args.b.now).memory (g.B.Board.seen c.args.b.now).power (g.B.Board.seen c.args.b.now).level (g.B.Board.seen c.args.b.now).meter world sound c.in-Ok-boot.up (record { known = c.remember-known.result; room = c.remember-known.new.room })
      (g.B.Board.seen c.boot.new.b).memory (g.B.Board.seen c.boot.new.b).power (g.B.Board.seen c.boot.new.b).level (g.B.Board.seen c.boot.new.b).meter booted c.remember-known.ensures.knows c.remember-known.ensures.codes c.in-Ok-boot.ensures.power c.in-Ok-boot.ensures.level c.in-Ok-boot.ensures.events.meter.armed);
  untold = λ unwritten. absurd (cc);
  quiet = c.boot.ensures.quiet;
  spared = c.boot.ensures.spared;
  events = c.in-Ok-boot.ensures.events;
  trees = no_trees_off (device.Off c.args.off) (device.One c.in-Ok-boot.up (record { known = c.remember-known.result; room = c.remember-known.new.room })) c.args.off event.Boot reply.Booted refl tt;
  done = tt;
  order = λ earlier world keys sound same makes. absurd makes;
  cost = c.boot.ensures.cost;
  again = λ own. absurd own;
}

pub returns-in-Err-Stopped : goal.returns-in-Err-Stopped
returns-in-Err-Stopped g c =
    let events_here = rw c.in-Err-Stopped.field-0-is at c.in-Err-Stopped.ensures.events in
    record {
      steps = as_taken event.Boot (λ held. refl) (λ world sound.
          let power_here = rw c.in-Err-Stopped.field-0-is at c.in-Err-Stopped.ensures.power in
          let zeroised_here = rw c.in-Err-Stopped.field-0-is at c.in-Err-Stopped.ensures.zeroised in
          boot_stopped c.args.off (g.B.Board.seen c.args.b.now).memory (g.B.Board.seen c.args.b.now).power (g.B.Board.seen c.args.b.now).level (g.B.Board.seen c.args.b.now).meter world sound c.in-Err-Stopped.off
          (g.B.Board.seen c.boot.new.b).memory (g.B.Board.seen c.boot.new.b).power (g.B.Board.seen c.boot.new.b).level (g.B.Board.seen c.boot.new.b).meter c.boot.ensures.meaning zeroised_here power_here events_here.meter.armed events_here.meter.cut);
      untold = λ unwritten. absurd (cc);
      quiet = c.boot.ensures.quiet;
      spared = c.boot.ensures.spared;
      events = events_here;
      trees = no_trees_off (device.Off c.args.off) (device.Off c.in-Err-Stopped.off) c.args.off event.Boot reply.Stopped refl tt;
      done = tt;
      order = λ earlier world keys sound same makes. absurd makes;
      cost = c.boot.ensures.cost;
      again = λ own. absurd own;
    }

pub returns-in-Err-Zeroised : goal.returns-in-Err-Zeroised
returns-in-Err-Zeroised g c =
    let events_here = rw c.in-Err-Zeroised.field-0-is at c.in-Err-Zeroised.ensures.events in
    let unwritten_here = rw c.in-Err-Zeroised.field-0-is at c.in-Err-Zeroised.ensures.unwritten in
    record {
      steps = as_taken event.Boot (λ held. refl) (λ world sound.
          let level_here = rw c.in-Err-Zeroised.field-0-is at c.in-Err-Zeroised.ensures.level in
          let power_here = rw c.in-Err-Zeroised.field-0-is at c.in-Err-Zeroised.ensures.power in
          let zeroised_here = rw c.in-Err-Zeroised.field-0-is at c.in-Err-Zeroised.ensures.zeroised in
          boot_found_dead c.args.off (g.B.Board.seen c.args.b.now).memory (g.B.Board.seen c.args.b.now).power (g.B.Board.seen c.args.b.now).level (g.B.Board.seen c.args.b.now).meter world sound c.in-Err-Zeroised.dead c.reply.result
          (g.B.Board.seen c.boot.new.b).memory (g.B.Board.seen c.boot.new.b).power (g.B.Board.seen c.boot.new.b).level (g.B.Board.seen c.boot.new.b).meter c.reply.ensures unwritten_here.0 zeroised_here power_here level_here unwritten_here.1);
      untold = λ unwritten. unwritten_here;
      quiet = c.boot.ensures.quiet;
      spared = c.boot.ensures.spared;
      events = record { ledger = events_here.ledger; meter = unmetered 15 c.reply.result _ _ (ap stop_told c.reply.ensures) unwritten_here.1 };
      trees = no_trees_off (device.Off c.args.off) (device.Dead c.in-Err-Zeroised.dead) c.args.off event.Boot c.reply.result refl tt;
      done = tt;
      order = λ earlier world keys sound same makes. absurd makes;
      cost = c.boot.ensures.cost;
      again = λ own. absurd own;
    }

pub returns : goal.returns
returns g c =
    let events_here = rw c.in-Err-NoMemory.field-0-is at c.in-Err-NoMemory.ensures.events in
    let unwritten_here = rw c.in-Err-NoMemory.field-0-is at c.in-Err-NoMemory.ensures.unwritten in
    record {
      steps = as_taken event.Boot (λ held. refl) (λ world sound.
          let power_here = rw c.in-Err-NoMemory.field-0-is at c.in-Err-NoMemory.ensures.power in
          boot_lacks c.args.off (g.B.Board.seen c.args.b.now).memory (g.B.Board.seen c.args.b.now).power (g.B.Board.seen c.args.b.now).level (g.B.Board.seen c.args.b.now).meter world sound c.in-Err-NoMemory.off
          (g.B.Board.seen c.boot.new.b).memory (g.B.Board.seen c.boot.new.b).power (g.B.Board.seen c.boot.new.b).level (g.B.Board.seen c.boot.new.b).meter unwritten_here.0 power_here unwritten_here.1);
      untold = λ unwritten. unwritten_here;
      quiet = c.boot.ensures.quiet;
      spared = c.boot.ensures.spared;
      events = events_here;
      trees = no_trees_off (device.Off c.args.off) (device.Off c.in-Err-NoMemory.off) c.args.off event.Boot reply.NoMemory refl tt;
      done = tt;
      order = λ earlier world keys sound same makes. absurd makes;
      cost = c.boot.ensures.cost;
      again = λ own. absurd own;
    }
