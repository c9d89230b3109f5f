use Rattle.std.proofs.Common.{inl, refl}
use Rattle.mb_board.specs.Calls.{held_in}
use Rattle.mb_model.specs.declared.event.Event.TheVariants as event
use Rattle.mb_model.specs.declared.reply.Refusal.TheVariants.{PoweredOff, Zeroised, WrongLayer}
use Rattle.mb_device.specs.declared.device.Device.TheVariants as device
use Rattle.mb_device.proofs.Answered.{refused, refused_by}
use Rattle.mb_device.proofs.Calling.{call_asleep, call_refused, call_at, is_three}
use Rattle.mb_device.proofs.Worlds.{awake_off, awake_dead}
use Rattle.mb_device.proofs.device.Device.call_code.Goals as goal

pub returns-in-Off : goal.returns-in-Off
returns-in-Off g c =
    refused_by _ _ c.args.self (device.Off c.in-Off.off) (event.Call c.args.layer c.args.key c.args.input.now) c.reply.result PoweredOff (g.B.Board.seen c.args.b.now) c.args.hashes.now c.in-Off.is c.reply.ensures (λ held. refl)
    (λ world sound. call_asleep world c.args.layer c.args.key c.args.input.now PoweredOff (awake_off world sound.fits))

pub returns-in-Dead : goal.returns-in-Dead
returns-in-Dead g c =
    refused_by _ _ c.args.self (device.Dead c.in-Dead.dead) (event.Call c.args.layer c.args.key c.args.input.now) c.reply-in-Dead.result Zeroised (g.B.Board.seen c.args.b.now) c.args.hashes.now c.in-Dead.is c.reply-in-Dead.ensures (λ held. refl)
    (λ world sound. call_asleep world c.args.layer c.args.key c.args.input.now Zeroised (awake_dead world sound.fits))

pub returns-then-layer-eq2 : goal.returns-then-layer-eq2
returns-then-layer-eq2 g c = call_at c.in-One.is c.if-layer-eq2.true c.call_two_at.ensures

pub returns-else-layer-eq2 : goal.returns-else-layer-eq2
returns-else-layer-eq2 g c = call_at c.in-One.is (is_three c.args.layer c.requires.layer c.if-layer-eq2.false) c.call_three_at.ensures

pub returns-then-layer-eq2-2 : goal.returns-then-layer-eq2-2
returns-then-layer-eq2-2 g c = call_at c.in-Two.is c.if-layer-eq2-2.true c.call_two_at-then-layer-eq2-2.ensures

pub returns-else-layer-eq2-2 : goal.returns-else-layer-eq2-2
returns-else-layer-eq2-2 g c = call_at c.in-Two.is (is_three c.args.layer c.requires.layer c.if-layer-eq2-2.false) c.call_three_at-else-layer-eq2-2.ensures

pub returns-then-layer-eq2-3 : goal.returns-then-layer-eq2-3
returns-then-layer-eq2-3 g c =
    call_at c.in-Three.is c.if-layer-eq2-3.true
    (refused _ _ (device.Three c.in-Three.up c.in-Three.running) (device.Three c.in-Three.up c.in-Three.running) (event.Call 2 c.args.key c.args.input.now) c.reply-then-layer-eq2-3.result WrongLayer (g.B.Board.seen c.args.b.now) c.args.hashes.now refl c.reply-then-layer-eq2-3.ensures (λ held. refl)
    (λ world own.
    call_refused (device.Three c.in-Three.up c.in-Three.running) 3 2 c.in-Three.running (held_in (g.B.Board.seen c.args.b.now)) world c.args.key c.args.input.now c.reply-then-layer-eq2-3.result c.reply-then-layer-eq2-3.ensures own own.fits own.fits (inl refl)))

pub returns-else-layer-eq2-3 : goal.returns-else-layer-eq2-3
returns-else-layer-eq2-3 g c = call_at c.in-Three.is (is_three c.args.layer c.requires.layer c.if-layer-eq2-3.false) c.call_three_at-else-layer-eq2-3.ensures
