use Rattle.std.proofs.Common.{refl}
use Rattle.mb_model.specs.declared.event.Event.TheVariants as event
use Rattle.mb_model.specs.declared.reply.Refusal.TheVariants.{WrongPhase, Zeroised}
use Rattle.mb_device.specs.declared.device.Device.TheVariants as device
use Rattle.mb_device.proofs.Answered.{of_device, refused_by}
use Rattle.mb_device.proofs.Worlds.{boot_dead, boot_again}
use Rattle.mb_device.proofs.device.Device.boot.Goals as goal

pub returns-in-Off : goal.returns-in-Off
returns-in-Off g c = of_device c.in-Off.is c.come_up.ensures

pub returns-in-Dead : goal.returns-in-Dead
returns-in-Dead g c = refused_by _ _ c.args.self (device.Dead c.in-Dead.dead) event.Boot c.reply.result Zeroised (g.B.Board.seen c.args.b.now) c.args.hashes.now c.in-Dead.is c.reply.ensures (λ held. refl) (λ world sound. boot_dead world sound.fits)

pub returns-in-One : goal.returns-in-One
returns-in-One g c = refused_by _ _ c.args.self (device.One c.in-One.up c.in-One.running) event.Boot c.reply-in-One.result WrongPhase (g.B.Board.seen c.args.b.now) c.args.hashes.now c.in-One.is c.reply-in-One.ensures (λ held. refl) (λ world sound. boot_again world 1 sound.fits.phase)

pub returns-in-Two : goal.returns-in-Two
returns-in-Two g c = refused_by _ _ c.args.self (device.Two c.in-Two.up c.in-Two.running) event.Boot c.reply-in-Two.result WrongPhase (g.B.Board.seen c.args.b.now) c.args.hashes.now c.in-Two.is c.reply-in-Two.ensures (λ held. refl) (λ world sound. boot_again world 2 sound.fits.phase)

pub returns-in-Three : goal.returns-in-Three
returns-in-Three g c = refused_by _ _ c.args.self (device.Three c.in-Three.up c.in-Three.running) event.Boot c.reply-in-Three.result WrongPhase (g.B.Board.seen c.args.b.now) c.args.hashes.now c.in-Three.is c.reply-in-Three.ensures (λ held. refl) (λ world sound. boot_again world 3 sound.fits.phase)
