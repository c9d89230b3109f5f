use Rattle.std.proofs.Common.{sym, ◌∙◌}
use Rattle.mb_tools_device.proofs.RehearseLemmas.{none_answered, one_more_obeyed, each_obeyed, unobeyed_here}
use Rattle.mb_tools_device.proofs.rehearse.first_unobeyed.Goals as goal

pub loop-index-init : goal.loop-index-init
loop-index-init c = none_answered c.args.answered.now

pub returns-then-is_unobeyed : goal.returns-then-is_unobeyed
returns-then-is_unobeyed c =
    unobeyed_here c.args.answered.now c.loop-index.index c.index-answered-index.result c.loop-index.invariant c.loop-index-test.true c.index-answered-index.is (sym c.is_unobeyed.ensures ∙ c.if-is_unobeyed.true)

pub loop-index-preserved : goal.loop-index-preserved
loop-index-preserved c =
    one_more_obeyed c.args.answered.now c.loop-index.index c.index-answered-index.result c.loop-index.invariant c.loop-index-test.true c.index-answered-index.is (sym c.is_unobeyed.ensures ∙ c.if-is_unobeyed.false)

pub returns : goal.returns
returns c = each_obeyed c.args.answered.now c.loop-index.index c.loop-index.invariant c.loop-index-test.false
