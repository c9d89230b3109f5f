use Rattle.std.proofs.Common.{refl, arith}
use Rattle.mb_model.specs.declared.event.Event.TheVariants as event
use Rattle.mb_model.specs.declared.reply.Reply.TheVariants as reply
use Rattle.mb_board.specs.Calls.{held_in}
use Rattle.mb_device.specs.Sound.{taken}
use Rattle.mb_device.specs.KeptTrees.{trees_of}
use Rattle.mb_device.proofs.Answered.{as_taken, switches, answers_more, sliced}
use Rattle.mb_device.proofs.Calling.{call_fits}
use Rattle.mb_device.proofs.Steps.{stays}
use Rattle.mb_device.proofs.Taken.{goes_off, is_tampered, is_armed, off_same}
use Rattle.mb_device.proofs.Trees.{trees_go, trees_stay}
use Rattle.mb_device.proofs.device.Device.step.Goals as goal

pub returns-in-Boot : goal.returns-in-Boot
returns-in-Boot g c = answers_more (omega arith) (omega arith) c.in-Boot.is c.boot.ensures

pub returns-in-Off : goal.returns-in-Off
returns-in-Off g c =
    answers_more {n = 35} {limit = 139744} (omega arith) (omega arith) c.in-Off.is
    (switches 35 139744 c.args.self c.power_off.result event.Off reply.Off (g.B.Board.seen c.args.b.now) (g.B.Board.seen c.power_off.new.b) c.args.hashes.now c.power_off.ensures.switched refl (trees_go 0 event.Off reply.Off (trees_of c.args.self) (trees_of c.power_off.result) refl refl refl) tt
    (λ earlier world sound same.
    goes_off c.args.self c.power_off.result earlier (held_in (g.B.Board.seen c.power_off.new.b)) world sound c.power_off.ensures.device
    (off_same (g.B.Board.seen c.args.b.now).memory (g.B.Board.seen c.power_off.new.b).memory (g.B.Board.seen c.args.b.now).power (g.B.Board.seen c.power_off.new.b).power (g.B.Board.seen c.args.b.now).level (g.B.Board.seen c.power_off.new.b).level (g.B.Board.seen c.args.b.now).meter (g.B.Board.seen c.power_off.new.b).meter (taken event.Off earlier) same refl c.power_off.ensures.switched.memory c.power_off.ensures.power c.power_off.ensures.switched.meter)))

pub returns-in-Tamper : goal.returns-in-Tamper
returns-in-Tamper g c =
    answers_more {n = 35} {limit = 139744} (omega arith) (omega arith) c.in-Tamper.is
    (switches 35 139744 c.args.self c.power_off-in-Tamper.result event.Tamper reply.Tampered (g.B.Board.seen c.args.b.now) (g.B.Board.seen c.power_off-in-Tamper.new.b) c.args.hashes.now c.power_off-in-Tamper.ensures.switched refl (trees_go 0 event.Tamper reply.Tampered (trees_of c.args.self) (trees_of c.power_off-in-Tamper.result) refl refl refl) tt
    (λ earlier world sound same.
    is_tampered c.args.self c.power_off-in-Tamper.result earlier (held_in (g.B.Board.seen c.power_off-in-Tamper.new.b)) world sound c.power_off-in-Tamper.ensures.device
    (off_same (g.B.Board.seen c.args.b.now).memory (g.B.Board.seen c.power_off-in-Tamper.new.b).memory (g.B.Board.seen c.args.b.now).power (g.B.Board.seen c.power_off-in-Tamper.new.b).power (g.B.Board.seen c.args.b.now).level (g.B.Board.seen c.power_off-in-Tamper.new.b).level (g.B.Board.seen c.args.b.now).meter (g.B.Board.seen c.power_off-in-Tamper.new.b).meter (taken event.Tamper earlier) same refl c.power_off-in-Tamper.ensures.switched.memory c.power_off-in-Tamper.ensures.power c.power_off-in-Tamper.ensures.switched.meter)))

pub returns-in-Cut : goal.returns-in-Cut
returns-in-Cut g c =
    answers_more {n = 35} {limit = 139744} (omega arith) (omega arith) c.in-Cut.is
    (switches 35 139744 c.args.self c.args.self (event.Cut c.in-Cut.count c.in-Cut.tear) reply.Armed (g.B.Board.seen c.args.b.now) (g.B.Board.seen c.args.b.now) c.args.hashes.now (record { memory = refl; ledger = refl; meter = refl }) refl
    (trees_stay c.args.self c.args.self c.args.self (event.Cut c.in-Cut.count c.in-Cut.tear) reply.Armed refl refl tt) tt
    (λ earlier world sound same. is_armed c.args.self earlier (held_in (g.B.Board.seen c.args.b.now)) world c.in-Cut.count c.in-Cut.tear sound same))

pub returns-in-Status : goal.returns-in-Status
returns-in-Status g c =
    answers_more {n = 35} {limit = 139744} (omega arith) (omega arith) c.in-Status.is
    (switches 35 139744 c.args.self c.args.self event.Status c.status-reply.result (g.B.Board.seen c.args.b.now) (g.B.Board.seen c.args.b.now) c.args.hashes.now (record { memory = refl; ledger = refl; meter = refl }) c.status-reply.ensures.goes_on
    (trees_stay c.args.self c.args.self c.args.self event.Status c.status-reply.result refl refl tt) tt
    (as_taken event.Status (λ held. refl) (λ world sound. stays c.args.self c.args.self (held_in (g.B.Board.seen c.args.b.now)) world event.Status c.status-reply.result (c.status-reply.ensures.told _ world sound.fits sound.valid) sound sound.fits)))

pub returns-in-Go : goal.returns-in-Go
returns-in-Go g c =
    answers_more {n = 35} {limit = 139744} (omega arith) (omega arith) c.in-Go.is
    (switches 35 139744 c.args.self c.go.result.0 event.Go c.go.result.1 (g.B.Board.seen c.args.b.now) (g.B.Board.seen c.go.new.b) c.args.hashes.now c.go.ensures.switched c.go.ensures.goes_on c.go.ensures.trees tt (as_taken event.Go (λ held. refl) c.go.ensures.steps))

pub returns-in-Order : goal.returns-in-Order
returns-in-Order g c = answers_more (omega arith) (omega arith) (sliced c.in-Order.is c.as_slice.ensures) c.command.ensures

pub returns-in-Put : goal.returns-in-Put
returns-in-Put g c = answers_more (omega arith) (omega arith) refl c.use_region.ensures

pub returns-in-Get : goal.returns-in-Get
returns-in-Get g c = answers_more (omega arith) (omega arith) refl c.use_region-in-Get.ensures

pub returns-in-Drop : goal.returns-in-Drop
returns-in-Drop g c = answers_more (omega arith) (omega arith) refl c.use_region-in-Drop.ensures

pub returns-in-Sign : goal.returns-in-Sign
returns-in-Sign g c = answers_more (omega arith) (omega arith) refl c.use_region-in-Sign.ensures

pub returns-in-Call : goal.returns-in-Call
returns-in-Call g c = answers_more (omega arith) (omega arith) c.in-Call.is c.call_code.ensures

pub call_code-requires-clause-layer : goal.call_code-requires-clause-layer
call_code-requires-clause-layer g c = (call_fits c.args.event.now _ _ _ c.in-Call.is c.requires.can_step.script).0

pub call_code-requires-clause-input : goal.call_code-requires-clause-input
call_code-requires-clause-input g c = (call_fits c.args.event.now _ _ _ c.in-Call.is c.requires.can_step.script).1
