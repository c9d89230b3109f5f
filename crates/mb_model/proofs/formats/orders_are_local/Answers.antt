use Rattle.mb_model.proofs.OrderReach.{order_local}
use Rattle.mb_model.proofs.formats.orders_are_local.Goals as goal

pub returns : goal.returns
returns c = order_local
