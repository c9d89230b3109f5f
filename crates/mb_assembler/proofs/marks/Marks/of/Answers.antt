use Rattle.std.proofs.Common.{refl, arith}
use Rattle.mb_appvm.proofs.Listings.{goes_down}
use Rattle.mb_assembler.proofs.Places.{none_marked, one_marked, all_marked, lacks_after}
use Rattle.mb_assembler.proofs.marks.Marks.of.Goals as goal

pub loop-place-init : goal.loop-place-init
loop-place-init c = none_marked c.args.code.now _ c.in_ok-marks.marks refl c.in_ok-marks.ensures.instructions c.in_ok-marks.ensures.targets

pub loop-place-smaller : goal.loop-place-smaller
loop-place-smaller c = goes_down c.args.code.now c.loop-place.place c.in-Some.next c.in-Some.instruction c.in-Some.ensures c.loop-place-test.true

pub loop-place-preserved : goal.loop-place-preserved
loop-place-preserved c =
    one_marked c.args.code.now c.loop-place.place c.in-Some.next c.in-Some.instruction c.loop-place.marks c.add.new.self c.loop-place.invariant c.in-Some.ensures c.add.ensures c.loop-place-test.true

pub returns-in-None : goal.returns-in-None
returns-in-None c =
    lacks_after c.args.code.now c.loop-place.place c.loop-place.invariant.listed c.loop-place.invariant.before c.loop-place-test.true c.in-None.ensures

pub returns : goal.returns
returns c = all_marked c.args.code.now c.loop-place.place c.loop-place.marks c.loop-place.invariant (omega (arith, c.loop-place-test.false))
