use Rattle.std.proofs.Common.{arith, sym, ◌∙◌}
use Rattle.mb_fleet.proofs.Meeting.{differ_here, same_goes_on, one_shorter}
use Rattle.mb_fleet.proofs.comparison.compare.Goals as goal

pub returns-then-ne : goal.returns-then-ne
returns-then-ne c = differ_here c.args.old.now c.args.new.now c.loop-index.index (omega (arith, c.loop-index-test.true, c.min-index-end.ensures)) (omega (arith, c.loop-index-test.true, c.min-index-end.ensures))
    c.loop-index.invariant (sym c.ne.ensures ∙ c.if-ne.true)

pub loop-index-preserved : goal.loop-index-preserved
loop-index-preserved c = same_goes_on c.args.old.now c.args.new.now c.loop-index.index (omega (arith, c.loop-index-test.true, c.min-index-end.ensures)) (omega (arith, c.loop-index-test.true, c.min-index-end.ensures))
    c.loop-index.invariant (sym c.ne.ensures ∙ c.if-ne.false)

pub returns-then-old-new-2 : goal.returns-then-old-new-2
returns-then-old-new-2 c = one_shorter c.args.old.now c.args.new.now c.loop-index.index (omega (arith, c.loop-index-test.false, c.loop-index.auto.index-end, c.min-index-end.ensures, c.if-old-new-2.true)) c.if-old-new-2.true c.loop-index.invariant

pub returns-else-old-new-2 : goal.returns-else-old-new-2
returns-else-old-new-2 c = one_shorter c.args.new.now c.args.old.now c.loop-index.index
    (omega (arith, c.loop-index-test.false, c.loop-index.auto.index-end, c.min-index-end.ensures, c.if-old-new-2.false, c.if-old-new.false))
    (omega (arith, c.if-old-new-2.false, c.if-old-new.false)) (sym c.loop-index.invariant)
