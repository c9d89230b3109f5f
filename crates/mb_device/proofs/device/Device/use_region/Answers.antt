use Rattle.std.proofs.Common.{◌∙◌, sym, inl, refl}
use Rattle.mb_model.specs.declared.reply.Refusal.TheVariants.{PoweredOff, Zeroised, WrongLayer}
use Rattle.mb_board.specs.Calls.{held_in}
use Rattle.mb_device.specs.declared.device.Device.TheVariants as device
use Rattle.mb_device.proofs.Answered.{layer_taken, of_device, refused, refused_by}
use Rattle.mb_device.proofs.Worlds.{awake_off, awake_dead}
use Rattle.mb_device.proofs.Uses.{use_asleep, use_refused, named_three}
use Rattle.mb_device.proofs.device.Device.use_region.Goals as goal

pub returns-in-Off : goal.returns-in-Off
returns-in-Off g c = refused_by _ _ c.args.self (device.Off c.in-Off.off) c.args.event.now c.reply.result PoweredOff (g.B.Board.seen c.args.b.now) c.args.hashes.now c.in-Off.is c.reply.ensures (layer_taken c.args.event.now c.requires.event) (λ world sound. use_asleep world c.args.event.now PoweredOff c.requires.event (awake_off world sound.fits))

pub returns-in-Dead : goal.returns-in-Dead
returns-in-Dead g c = refused_by _ _ c.args.self (device.Dead c.in-Dead.dead) c.args.event.now c.reply-in-Dead.result Zeroised (g.B.Board.seen c.args.b.now) c.args.hashes.now c.in-Dead.is c.reply-in-Dead.ensures (layer_taken c.args.event.now c.requires.event) (λ world sound. use_asleep world c.args.event.now Zeroised c.requires.event (awake_dead world sound.fits))

pub returns-then-region-eq2 : goal.returns-then-region-eq2
returns-then-region-eq2 g c = of_device c.in-One.is c.use_at.ensures

pub use_at-requires-else-region-eq2-clause-region : goal.use_at-requires-else-region-eq2-clause-region
use_at-requires-else-region-eq2-clause-region g c = named_three c.args.event.now c.args.region c.requires.event c.requires.script c.requires.region c.if-region-eq2.false

pub returns-else-region-eq2 : goal.returns-else-region-eq2
returns-else-region-eq2 g c = of_device c.in-One.is c.use_at-else-region-eq2.ensures

pub returns-then-region-eq2-2 : goal.returns-then-region-eq2-2
returns-then-region-eq2-2 g c = of_device c.in-Two.is c.use_at-then-region-eq2-2.ensures

pub use_at-requires-else-region-eq2-2-clause-region : goal.use_at-requires-else-region-eq2-2-clause-region
use_at-requires-else-region-eq2-2-clause-region g c = named_three c.args.event.now c.args.region c.requires.event c.requires.script c.requires.region c.if-region-eq2-2.false

pub returns-else-region-eq2-2 : goal.returns-else-region-eq2-2
returns-else-region-eq2-2 g c = of_device c.in-Two.is c.use_at-else-region-eq2-2.ensures

pub returns-then-region-eq2-3 : goal.returns-then-region-eq2-3
returns-then-region-eq2-3 g c =
    refused _ _ c.args.self (device.Three c.in-Three.up c.in-Three.running) c.args.event.now c.reply-then-region-eq2-3.result WrongLayer (g.B.Board.seen c.args.b.now) c.args.hashes.now c.in-Three.is c.reply-then-region-eq2-3.ensures (layer_taken c.args.event.now c.requires.event)
    (λ world own.
    use_refused (device.Three c.in-Three.up c.in-Three.running) 3 2 c.in-Three.running (held_in (g.B.Board.seen c.args.b.now)) world c.args.event.now c.reply-then-region-eq2-3.result c.requires.event
    (sym c.if-region-eq2-3.true ∙ c.requires.region) c.reply-then-region-eq2-3.ensures own own.fits own.fits (inl refl))

pub use_at-requires-else-region-eq2-3-clause-region : goal.use_at-requires-else-region-eq2-3-clause-region
use_at-requires-else-region-eq2-3-clause-region g c = named_three c.args.event.now c.args.region c.requires.event c.requires.script c.requires.region c.if-region-eq2-3.false

pub returns-else-region-eq2-3 : goal.returns-else-region-eq2-3
returns-else-region-eq2-3 g c = of_device c.in-Three.is c.use_at-else-region-eq2-3.ensures
