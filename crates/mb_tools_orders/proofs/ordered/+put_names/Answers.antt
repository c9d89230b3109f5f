use Rattle.std.proofs.Common.{◌∙◌}
use Rattle.mb_model.specs.machine.SignedTexts.{countersigned_text}
use Rattle.mb_tools_orders.proofs.Telling.{above_then}
use Rattle.mb_tools_orders.proofs.ordered.+put_names.Goals as goal

pub returns : goal.returns
unfolding countersigned_text
returns t c =
    above_then c.put_names.result c.args.key.now c.args.body.now c.in-Some.by.now c.args.list.now c.in-Some.list.now c.as_slice.result.now c.as_str.result.now
    c.args.out.now.items c.put_if_verified.new.out.items c.put_names.new.out.items
    c.in-Some.ensures.cases.0 c.as_slice.ensures (c.as_str.ensures.value ∙ c.in_ok-line.ensures.ok) c.in_ok-put_if_verified.ensures c.put_names.ensures
