use Rattle.mb_model.specs.records.OrderFormat.{body_of, order_format}
use Rattle.mb_bytes.proofs.Putting.{puts_both}
use Rattle.mb_command.proofs.order.put_order.Goals as goal

pub returns : goal.returns
unfolding order_format
returns c = puts_both _ _ c.put_countersignatures.result c.in_ok-put_body.ensures (puts_both _ _ c.put_countersignatures.result c.in_ok-put_signature.ensures (c.put_countersignatures.ensures (body_of c.args.order.now)))
