use Rattle.std.proofs.Common.{ℕ, List, ◌++◌, ap, ◌∙◌}
use Rattle.mb_tools_orders.specs.ShowOrder.{target_line}
use Rattle.mb_tools_orders.proofs.Showing.{lines_more}
use Rattle.mb_tools_orders.proofs.shown.put_targets.Goals as goal

pub loop-target-preserved : goal.loop-target-preserved
loop-target-preserved c =
    let line = c.in_ok-put.ensures ∙ ap (λ (t : List ℕ). c.loop-target.out.items ++ t) (c.as_str.ensures.value ∙ c.in_ok-line.ensures) in
    lines_more target_line c.args.targets.now c.loop-target.target-index _ c.args.out.now.items c.loop-target.out.items c.put.new.out.items c.loop-target-test.true c.loop-target.invariant line
