use Rattle.mb_tools_orders.proofs.AlikeOrders.{orders_shown_alike, one_body_is_one_order}
use Rattle.mb_tools_orders.proofs.laws.orders_shown_alike_are_one.Goals as goal

pub returns : goal.returns
returns c = record { body = orders_shown_alike; order = one_body_is_one_order }
