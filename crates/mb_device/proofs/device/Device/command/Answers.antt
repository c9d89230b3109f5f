use Rattle.std.proofs.Common.{None, Some, arith, refl, subst, sym, ◌∙◌}
use Rattle.std.specs.Prelude.{Ok}
use Rattle.mb_ratchet.specs.declared.state.Off.{Off}
use Rattle.mb_board.specs.Calls.{held_in}
use Rattle.mb_model.specs.declared.event.Event.TheVariants as event
use Rattle.mb_model.specs.declared.reply.Refusal.TheVariants.{PoweredOff, WrongPhase, Zeroised}
use Rattle.mb_model.specs.declared.reply.Reply.TheVariants as reply
use Rattle.mb_device.specs.declared.device.Device.{Device}
use Rattle.mb_device.specs.declared.device.Device.TheVariants as device
use Rattle.mb_device.specs.Sound.{IsSoundDevice}
use Rattle.mb_device.proofs.Answered.{as_taken, sound_taken, of_device, refused_by, uncut, stopped_by}
use Rattle.mb_device.proofs.Ordered.{order_told, order_cut, order_goes_on}
use Rattle.mb_device.proofs.Steps.{running_ready}
use Rattle.mb_device.proofs.Trees.{trees_go, trees_ordered}
use Rattle.mb_device.proofs.Uses.{is_up, remembers, running_on, metered_by}
use Rattle.mb_device.proofs.Worlds.{awake_off, awake_dead, awake_at, command_refused, command_past}
use Rattle.mb_device.proofs.device.Device.command.Goals as goal

pub obey-requires : goal.obey-requires
obey-requires g c =
    let has = c.requires.sound in
    let own : IsSoundDevice (device.One c.in-One.up c.in-One.running) (held_in (g.B.Board.seen c.args.b.now)) has.world =
    subst (λ (d : Device). IsSoundDevice d (held_in (g.B.Board.seen c.args.b.now)) has.world) c.in-One.is has.sound in
    record {
      up = is_up (device.One c.in-One.up c.in-One.running) 1 (g.B.Board.seen c.args.b.now) has.world own own.fits.phase;
      bytes = c.requires.bytes.bbram;
      remembered = remembers (device.One c.in-One.up c.in-One.running) 1 (g.B.Board.seen c.args.b.now) c.in-One.running has.world own own.fits;
    }

pub returns-in-Ok : goal.returns-in-Ok
returns-in-Ok g c = of_device c.in-One.is (record {
  steps = as_taken (event.Order c.args.text.now c.args.draw.now) (λ held. refl) (λ world sound.
      let on = running_on (device.One c.in-One.up c.in-One.running) 1 (g.B.Board.seen c.args.b.now).memory (g.B.Board.seen c.args.b.now).power (g.B.Board.seen c.args.b.now).level (g.B.Board.seen c.args.b.now).meter world sound sound.fits.phase in
      let ready = running_ready (device.One c.in-One.up c.in-One.running) 1 _ world sound.fits.state sound sound.fits.phase sound.fits.live in
      order_told (device.One c.in-One.up c.in-One.running) c.in-One.running c.args.text.now c.args.draw.now (g.B.Board.seen c.args.b.now).memory (g.B.Board.seen c.args.b.now).power (g.B.Board.seen c.args.b.now).level (g.B.Board.seen c.args.b.now).meter world sound sound.fits
      (device.One c.in-Ok.up c.obey.new.running) c.obey.new.running c.in-Ok.reply (g.B.Board.seen c.obey.new.b).memory (g.B.Board.seen c.obey.new.b).power (g.B.Board.seen c.obey.new.b).level (g.B.Board.seen c.obey.new.b).meter
      (c.in-Ok.ensures.told sound.fits.state ready sound.fits.knows sound.fits.codes) (c.in-Ok.ensures.ran.power ∙ sym on.0) c.in-Ok.ensures.ran.level c.in-Ok.ensures.ran.meter.armed on.0 on.1 (λ w fits. fits));
  untold = λ unwritten. c.in-Ok.ensures.writes (uncut c.in-Ok.reply unwritten);
  quiet = tt;
  spared = c.obey.ensures.spared;
  events =
      let world = c.requires.sound.world in
      let sound : IsSoundDevice (device.One c.in-One.up c.in-One.running) (held_in (g.B.Board.seen c.args.b.now)) world =
      subst (λ (d : Device). IsSoundDevice d (held_in (g.B.Board.seen c.args.b.now)) world) c.in-One.is c.requires.sound.sound in
      let ready = running_ready (device.One c.in-One.up c.in-One.running) 1 _ world sound.fits.state sound sound.fits.phase sound.fits.live in
      record {
        ledger = c.in-Ok.ensures.ran.ledger;
        meter =
            metered_by 35 (c.in-Ok.up, c.in-Ok.reply) c.in-Ok.reply (g.B.Board.seen c.args.b.now).meter (g.B.Board.seen c.obey.new.b).meter
            (order_goes_on sound.fits.state c.args.text.now c.args.draw.now c.obey.new.running.known c.in-Ok.reply (g.B.Board.seen c.args.b.now).memory (g.B.Board.seen c.obey.new.b).memory (c.in-Ok.ensures.told sound.fits.state ready sound.fits.knows sound.fits.codes)) c.in-Ok.ensures.ran.meter;
      };
  trees = trees_ordered {E = Off} (Ok (c.in-Ok.up, c.in-Ok.reply)) c.in-One.running.known c.obey.new.running.known c.args.text.now c.args.draw.now c.in-Ok.ensures.stays;
  done = c.in-Ok.ensures.keeps;
  order = λ earlier world keys before same makes has.
      let sound = sound_taken (event.Order c.args.text.now c.args.draw.now) (λ held. refl) same before in
      let ready = running_ready (device.One c.in-One.up c.in-One.running) 1 _ world sound.fits.state sound sound.fits.phase sound.fits.live in
      c.obey.ensures.again sound.fits.state keys ready sound.fits.knows has (makes sound.fits.state sound.fits.live);
  cost = omega (arith, c.obey.ensures.cost);
  again = λ own. absurd own;
})

pub returns-in-Err : goal.returns-in-Err
returns-in-Err g c = of_device c.in-One.is (record {
  steps = as_taken (event.Order c.args.text.now c.args.draw.now) (λ held. refl) (λ world sound.
      let ready = running_ready (device.One c.in-One.up c.in-One.running) 1 _ world sound.fits.state sound sound.fits.phase sound.fits.live in
      order_cut (device.One c.in-One.up c.in-One.running) c.in-One.running c.args.text.now c.args.draw.now (g.B.Board.seen c.args.b.now).memory (g.B.Board.seen c.args.b.now).power (g.B.Board.seen c.args.b.now).level (g.B.Board.seen c.args.b.now).meter world sound sound.fits
      c.in-Err.off (g.B.Board.seen c.obey.new.b).memory (g.B.Board.seen c.obey.new.b).power (g.B.Board.seen c.obey.new.b).level (g.B.Board.seen c.obey.new.b).meter (c.in-Err.ensures.told sound.fits.state ready sound.fits.knows sound.fits.codes) c.in-Err.ensures.ran.power c.in-Err.ensures.ran.meter.armed c.in-Err.ensures.ran.meter.cut);
  untold = λ unwritten. absurd (cc);
  quiet = tt;
  spared = c.obey.ensures.spared;
  events = record { ledger = c.in-Err.ensures.ran.ledger; meter = stopped_by 35 c.in-Err.off _ _ c.in-Err.ensures.ran.meter };
  trees = trees_go 0 (event.Order c.args.text.now c.args.draw.now) reply.Stopped (Some c.in-One.running.known.trees.value) None refl refl refl;
  done = λ done. absurd (cc);
  order = λ earlier world keys before same makes has.
      let sound = sound_taken (event.Order c.args.text.now c.args.draw.now) (λ held. refl) same before in
      let ready = running_ready (device.One c.in-One.up c.in-One.running) 1 _ world sound.fits.state sound sound.fits.phase sound.fits.live in
      c.obey.ensures.again sound.fits.state keys ready sound.fits.knows has (makes sound.fits.state sound.fits.live);
  cost = omega (arith, c.obey.ensures.cost);
  again = λ own. absurd own;
})

pub returns-in-Off : goal.returns-in-Off
returns-in-Off g c = refused_by _ _ c.args.self (device.Off c.in-Off.off) (event.Order c.args.text.now c.args.draw.now) c.reply.result PoweredOff (g.B.Board.seen c.args.b.now) c.args.hashes.now c.in-Off.is c.reply.ensures (λ held. refl) (λ world sound. command_refused world _ _ PoweredOff (awake_off world sound.fits))

pub returns-in-Dead : goal.returns-in-Dead
returns-in-Dead g c = refused_by _ _ c.args.self (device.Dead c.in-Dead.dead) (event.Order c.args.text.now c.args.draw.now) c.reply-in-Dead.result Zeroised (g.B.Board.seen c.args.b.now) c.args.hashes.now c.in-Dead.is c.reply-in-Dead.ensures (λ held. refl) (λ world sound. command_refused world _ _ Zeroised (awake_dead world sound.fits))

pub returns-in-Two : goal.returns-in-Two
returns-in-Two g c = refused_by _ _ c.args.self (device.Two c.in-Two.up c.in-Two.running) (event.Order c.args.text.now c.args.draw.now) c.reply-in-Two.result WrongPhase (g.B.Board.seen c.args.b.now) c.args.hashes.now c.in-Two.is c.reply-in-Two.ensures (λ held. refl) (λ world sound. command_past world _ _ 2 sound.fits.state (omega arith) (awake_at world 2 sound.fits.state sound.fits.phase sound.fits.live))

pub returns-in-Three : goal.returns-in-Three
returns-in-Three g c = refused_by _ _ c.args.self (device.Three c.in-Three.up c.in-Three.running) (event.Order c.args.text.now c.args.draw.now) c.reply-in-Three.result WrongPhase (g.B.Board.seen c.args.b.now) c.args.hashes.now c.in-Three.is c.reply-in-Three.ensures (λ held. refl) (λ world sound. command_past world _ _ 3 sound.fits.state (omega arith) (awake_at world 3 sound.fits.state sound.fits.phase sound.fits.live))
