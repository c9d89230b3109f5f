use Rattle.std.proofs.Common.{refl, subst, sym, ◌∙◌}
use Rattle.mb_model.specs.declared.event.Event.TheVariants as event
use Rattle.mb_model.specs.declared.reply.Refusal.TheVariants.{PoweredOff, WrongPhase, Zeroised, WrongLayer}
use Rattle.mb_model.specs.declared.reply.Reply.TheVariants as reply
use Rattle.mb_board.specs.Calls.{held_by}
use Rattle.mb_device.specs.declared.device.Device.{Device}
use Rattle.mb_device.specs.declared.device.Device.TheVariants as device
use Rattle.mb_device.specs.Sound.{IsSoundDevice}
use Rattle.mb_device.proofs.Worlds.{awake_off, awake_dead, awake_at, go_refused, go_past}
use Rattle.mb_device.proofs.Steps.{refuses_as}
use Rattle.mb_device.proofs.Told.{goes_on, second_runs, third_runs, no_second, no_third}
use Rattle.mb_device.proofs.Uses.{running_on}
use Rattle.mb_device.proofs.Trees.{trees_refused, trees_stay}
use Rattle.mb_device.proofs.device.Device.go.Goals as goal

pub returns-in-Off-clause-steps : goal.returns-in-Off-clause-steps
returns-in-Off-clause-steps g c = λ world sound.
    refuses_as c.args.self (device.Off c.in-Off.off) _ world event.Go c.reply.result PoweredOff c.in-Off.is c.reply.ensures sound (λ fits. go_refused world PoweredOff (awake_off world fits))

pub returns-in-Dead-clause-steps : goal.returns-in-Dead-clause-steps
returns-in-Dead-clause-steps g c = λ world sound.
    refuses_as c.args.self (device.Dead c.in-Dead.dead) _ world event.Go c.reply-in-Dead.result Zeroised c.in-Dead.is c.reply-in-Dead.ensures sound (λ fits. go_refused world Zeroised (awake_dead world fits))

pub returns-then-may_run-clause-steps : goal.returns-then-may_run-clause-steps
returns-then-may_run-clause-steps g c = λ world sound.
    let own : IsSoundDevice (device.One c.in-One.up c.in-One.running) (held_by (g.B.Board.seen c.args.b.now).memory (g.B.Board.seen c.args.b.now).power (g.B.Board.seen c.args.b.now).level (g.B.Board.seen c.args.b.now).meter) world =
    subst (λ (d : Device). IsSoundDevice d (held_by (g.B.Board.seen c.args.b.now).memory (g.B.Board.seen c.args.b.now).power (g.B.Board.seen c.args.b.now).level (g.B.Board.seen c.args.b.now).meter) world) c.in-One.is sound in
    goes_on (device.One c.in-One.up c.in-One.running) (device.Two c.advance.result c.in-One.running) 1 c.in-One.running (g.B.Board.seen c.args.b.now).memory (g.B.Board.seen c.advance.new.r).memory
    (g.B.Board.seen c.args.b.now).power (g.B.Board.seen c.advance.new.r).power (g.B.Board.seen c.args.b.now).level (g.B.Board.seen c.advance.new.r).level (g.B.Board.seen c.args.b.now).meter (g.B.Board.seen c.advance.new.r).meter
    world own own.fits (second_runs (g.B.Board.seen c.args.b.now).memory.flash world c.in-One.running own.fits own.valid (sym c.may_run.ensures ∙ c.if-may_run.true))
    (g.met.B.Board.keeps_memory c.advance.new.r c.args.b.now c.advance.ensures.rest) (g.met.B.Board.keeps_meter c.advance.new.r c.args.b.now c.advance.ensures.rest) (g.met.B.Board.sees_power c.advance.new.r ∙ c.advance.ensures.power) (g.met.B.Board.sees_level c.advance.new.r ∙ c.advance.ensures.level) (λ w running. running)

pub returns-else-may_run-clause-steps : goal.returns-else-may_run-clause-steps
returns-else-may_run-clause-steps g c = λ world sound.
    refuses_as c.args.self (device.One c.in-One.up c.in-One.running) _ world event.Go c.reply-else-may_run.result WrongLayer c.in-One.is c.reply-else-may_run.ensures sound
    (λ fits. no_second (g.B.Board.seen c.args.b.now).memory.flash world c.in-One.running fits sound.valid (sym c.may_run.ensures ∙ c.if-may_run.false))

pub returns-then-may_run-2-clause-steps : goal.returns-then-may_run-2-clause-steps
returns-then-may_run-2-clause-steps g c = λ world sound.
    let own : IsSoundDevice (device.Two c.in-Two.up c.in-Two.running) (held_by (g.B.Board.seen c.args.b.now).memory (g.B.Board.seen c.args.b.now).power (g.B.Board.seen c.args.b.now).level (g.B.Board.seen c.args.b.now).meter) world =
    subst (λ (d : Device). IsSoundDevice d (held_by (g.B.Board.seen c.args.b.now).memory (g.B.Board.seen c.args.b.now).power (g.B.Board.seen c.args.b.now).level (g.B.Board.seen c.args.b.now).meter) world) c.in-Two.is sound in
    goes_on (device.Two c.in-Two.up c.in-Two.running) (device.Three c.advance-then-may_run-2.result c.in-Two.running) 2 c.in-Two.running (g.B.Board.seen c.args.b.now).memory (g.B.Board.seen c.advance-then-may_run-2.new.r).memory
    (g.B.Board.seen c.args.b.now).power (g.B.Board.seen c.advance-then-may_run-2.new.r).power (g.B.Board.seen c.args.b.now).level (g.B.Board.seen c.advance-then-may_run-2.new.r).level (g.B.Board.seen c.args.b.now).meter (g.B.Board.seen c.advance-then-may_run-2.new.r).meter
    world own own.fits (third_runs (g.B.Board.seen c.args.b.now).memory.flash world c.in-Two.running own.fits own.valid (sym c.may_run-in-Two.ensures ∙ c.if-may_run-2.true))
    (g.met.B.Board.keeps_memory c.advance-then-may_run-2.new.r c.args.b.now c.advance-then-may_run-2.ensures.rest) (g.met.B.Board.keeps_meter c.advance-then-may_run-2.new.r c.args.b.now c.advance-then-may_run-2.ensures.rest) (g.met.B.Board.sees_power c.advance-then-may_run-2.new.r ∙ c.advance-then-may_run-2.ensures.power) (g.met.B.Board.sees_level c.advance-then-may_run-2.new.r ∙ c.advance-then-may_run-2.ensures.level) (λ w running. running)

pub returns-else-may_run-2-clause-steps : goal.returns-else-may_run-2-clause-steps
returns-else-may_run-2-clause-steps g c = λ world sound.
    refuses_as c.args.self (device.Two c.in-Two.up c.in-Two.running) _ world event.Go c.reply-else-may_run-2.result WrongLayer c.in-Two.is c.reply-else-may_run-2.ensures sound
    (λ fits. no_third (g.B.Board.seen c.args.b.now).memory.flash world c.in-Two.running fits sound.valid (sym c.may_run-in-Two.ensures ∙ c.if-may_run-2.false))

pub returns-in-Three-clause-steps : goal.returns-in-Three-clause-steps
returns-in-Three-clause-steps g c = λ world sound.
    refuses_as c.args.self (device.Three c.in-Three.up c.in-Three.running) _ world event.Go c.reply-in-Three.result WrongPhase c.in-Three.is c.reply-in-Three.ensures sound
    (λ fits. go_past world fits.state (awake_at world 3 fits.state fits.phase fits.live))

pub advance-requires-clause-power : goal.advance-requires-clause-power
advance-requires-clause-power g c =
    let world = c.requires.sound.world in
    let own : IsSoundDevice (device.One c.in-One.up c.in-One.running) (held_by (g.B.Board.seen c.args.b.now).memory (g.B.Board.seen c.args.b.now).power (g.B.Board.seen c.args.b.now).level (g.B.Board.seen c.args.b.now).meter) world =
    subst (λ (d : Device). IsSoundDevice d (held_by (g.B.Board.seen c.args.b.now).memory (g.B.Board.seen c.args.b.now).power (g.B.Board.seen c.args.b.now).level (g.B.Board.seen c.args.b.now).meter) world) c.in-One.is c.requires.sound.sound in
    sym (g.met.B.Board.sees_power c.args.b.now) ∙ (running_on (device.One c.in-One.up c.in-One.running) 1 (g.B.Board.seen c.args.b.now).memory (g.B.Board.seen c.args.b.now).power (g.B.Board.seen c.args.b.now).level (g.B.Board.seen c.args.b.now).meter world own own.fits.phase).0

pub advance-requires-clause-level : goal.advance-requires-clause-level
advance-requires-clause-level g c =
    let world = c.requires.sound.world in
    let own : IsSoundDevice (device.One c.in-One.up c.in-One.running) (held_by (g.B.Board.seen c.args.b.now).memory (g.B.Board.seen c.args.b.now).power (g.B.Board.seen c.args.b.now).level (g.B.Board.seen c.args.b.now).meter) world =
    subst (λ (d : Device). IsSoundDevice d (held_by (g.B.Board.seen c.args.b.now).memory (g.B.Board.seen c.args.b.now).power (g.B.Board.seen c.args.b.now).level (g.B.Board.seen c.args.b.now).meter) world) c.in-One.is c.requires.sound.sound in
    sym (g.met.B.Board.sees_level c.args.b.now) ∙ (running_on (device.One c.in-One.up c.in-One.running) 1 (g.B.Board.seen c.args.b.now).memory (g.B.Board.seen c.args.b.now).power (g.B.Board.seen c.args.b.now).level (g.B.Board.seen c.args.b.now).meter world own own.fits.phase).1

pub advance-requires-then-may_run-2-clause-power : goal.advance-requires-then-may_run-2-clause-power
advance-requires-then-may_run-2-clause-power g c =
    let world = c.requires.sound.world in
    let own : IsSoundDevice (device.Two c.in-Two.up c.in-Two.running) (held_by (g.B.Board.seen c.args.b.now).memory (g.B.Board.seen c.args.b.now).power (g.B.Board.seen c.args.b.now).level (g.B.Board.seen c.args.b.now).meter) world =
    subst (λ (d : Device). IsSoundDevice d (held_by (g.B.Board.seen c.args.b.now).memory (g.B.Board.seen c.args.b.now).power (g.B.Board.seen c.args.b.now).level (g.B.Board.seen c.args.b.now).meter) world) c.in-Two.is c.requires.sound.sound in
    sym (g.met.B.Board.sees_power c.args.b.now) ∙ (running_on (device.Two c.in-Two.up c.in-Two.running) 2 (g.B.Board.seen c.args.b.now).memory (g.B.Board.seen c.args.b.now).power (g.B.Board.seen c.args.b.now).level (g.B.Board.seen c.args.b.now).meter world own own.fits.phase).0

pub advance-requires-then-may_run-2-clause-level : goal.advance-requires-then-may_run-2-clause-level
advance-requires-then-may_run-2-clause-level g c =
    let world = c.requires.sound.world in
    let own : IsSoundDevice (device.Two c.in-Two.up c.in-Two.running) (held_by (g.B.Board.seen c.args.b.now).memory (g.B.Board.seen c.args.b.now).power (g.B.Board.seen c.args.b.now).level (g.B.Board.seen c.args.b.now).meter) world =
    subst (λ (d : Device). IsSoundDevice d (held_by (g.B.Board.seen c.args.b.now).memory (g.B.Board.seen c.args.b.now).power (g.B.Board.seen c.args.b.now).level (g.B.Board.seen c.args.b.now).meter) world) c.in-Two.is c.requires.sound.sound in
    sym (g.met.B.Board.sees_level c.args.b.now) ∙ (running_on (device.Two c.in-Two.up c.in-Two.running) 2 (g.B.Board.seen c.args.b.now).memory (g.B.Board.seen c.args.b.now).power (g.B.Board.seen c.args.b.now).level (g.B.Board.seen c.args.b.now).meter world own own.fits.phase).1

pub returns-in-Off-clause-trees : goal.returns-in-Off-clause-trees
returns-in-Off-clause-trees g c = trees_refused c.args.self (device.Off c.in-Off.off) (device.Off c.in-Off.off) event.Go c.reply.result PoweredOff c.in-Off.is refl c.reply.ensures

pub returns-in-Dead-clause-trees : goal.returns-in-Dead-clause-trees
returns-in-Dead-clause-trees g c = trees_refused c.args.self (device.Dead c.in-Dead.dead) (device.Dead c.in-Dead.dead) event.Go c.reply-in-Dead.result Zeroised c.in-Dead.is refl c.reply-in-Dead.ensures

pub returns-else-may_run-clause-trees : goal.returns-else-may_run-clause-trees
returns-else-may_run-clause-trees g c = trees_refused c.args.self (device.One c.in-One.up c.in-One.running) (device.One c.in-One.up c.in-One.running) event.Go c.reply-else-may_run.result WrongLayer c.in-One.is refl c.reply-else-may_run.ensures

pub returns-else-may_run-2-clause-trees : goal.returns-else-may_run-2-clause-trees
returns-else-may_run-2-clause-trees g c = trees_refused c.args.self (device.Two c.in-Two.up c.in-Two.running) (device.Two c.in-Two.up c.in-Two.running) event.Go c.reply-else-may_run-2.result WrongLayer c.in-Two.is refl c.reply-else-may_run-2.ensures

pub returns-in-Three-clause-trees : goal.returns-in-Three-clause-trees
returns-in-Three-clause-trees g c = trees_refused c.args.self (device.Three c.in-Three.up c.in-Three.running) (device.Three c.in-Three.up c.in-Three.running) event.Go c.reply-in-Three.result WrongPhase c.in-Three.is refl c.reply-in-Three.ensures

pub returns-then-may_run-clause-trees : goal.returns-then-may_run-clause-trees
returns-then-may_run-clause-trees g c = trees_stay c.args.self (device.One c.in-One.up c.in-One.running) (device.Two c.advance.result c.in-One.running) event.Go (reply.At 2) c.in-One.is refl tt

pub returns-then-may_run-2-clause-trees : goal.returns-then-may_run-2-clause-trees
returns-then-may_run-2-clause-trees g c = trees_stay c.args.self (device.Two c.in-Two.up c.in-Two.running) (device.Three c.advance-then-may_run-2.result c.in-Two.running) event.Go (reply.At 3) c.in-Two.is refl tt
