use Rattle.mb_appvm.proofs.Tables.{line_more}
use Rattle.mb_appvm.proofs.table.Labels.of_lines.Goals as goal

pub loop-at-preserved : goal.loop-at-preserved
loop-at-preserved c =
    line_more c.args.said.now c.loop-at.at c.index-said-at.result c.index-said-at.result c.loop-at.labels c.add_line.new.self c.loop-at-test.true c.index-said-at.is c.loop-at.invariant
    c.in_ok-add_line.ensures
