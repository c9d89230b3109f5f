use Rattle.std.proofs.Common.{ℕ, List, ◌++◌, map, ap, ◌∙◌}
use Rattle.std.specs.Global.{Vec}
use Rattle.mb_model.specs.declared.order.Target.{Target}
use Rattle.mb_model.specs.declared.order.Countersignature.{Countersignature}
use Rattle.mb_model.specs.chains.Lines.{text_of}
use Rattle.mb_tools_orders.specs.ShowOrder.{target_line, countersignature_line}
use Rattle.mb_tools_orders.proofs.Showing.{shown_whole}
use Rattle.mb_tools_orders.proofs.shown.order_shown.Goals as goal

pub returns : goal.returns
returns c =
    let first = ap (λ (v : Vec ℕ). v.items) c.into_bytes-out.ensures.value ∙ c.in_ok-first_line.ensures in
    let second = c.in_ok-put_targets.ensures ∙ ap (λ (t : List Target). c.into_bytes-out.result.items ++ text_of (map target_line t)) c.as_slice.ensures in
    let sixth = c.in_ok-put_countersignatures.ensures ∙ ap (λ (by : List Countersignature). c.put_signature.new.out.items ++ text_of (map countersignature_line by)) c.as_slice-2.ensures in
    shown_whole c.args.order.now c.into_bytes-out.result.items c.put_targets.new.out.items c.put_act.new.out.items c.put_body.new.out.items c.put_signature.new.out.items c.put_countersignatures.new.out.items
    first second c.in_ok-put_act.ensures c.in_ok-put_body.ensures c.in_ok-put_signature.ensures sixth
