use Rattle.std.proofs.Common.{ℕ, List, ◌++◌, ap, ◌∙◌}
use Rattle.mb_model.specs.declared.order.Countersignature.{Countersignature}
use Rattle.mb_model.specs.outside.Texts.{line_with_lf}
use Rattle.mb_tools_orders.specs.ShowOrder.{countersignature_line}
use Rattle.mb_tools_orders.proofs.Showing.{lines_more}
use Rattle.mb_tools_orders.proofs.shown.put_countersignatures.Goals as goal

pub loop-by-preserved : goal.loop-by-preserved
loop-by-preserved c =
    let own = c.as_str.ensures.value ∙ c.in_ok-line.ensures ∙ ap (λ (by : Countersignature). line_with_lf (countersignature_line by)) c.by-item.is in
    let line = c.in_ok-put.ensures ∙ ap (λ (t : List ℕ). c.loop-by.out.items ++ t) own in
    lines_more countersignature_line c.args.list.now c.loop-by.by-index c.by-item.result c.args.out.now.items c.loop-by.out.items c.put.new.out.items c.loop-by-test.true c.loop-by.invariant line
