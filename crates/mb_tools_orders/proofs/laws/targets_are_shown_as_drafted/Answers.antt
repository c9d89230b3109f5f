use Rattle.mb_tools_orders.proofs.AlikeOrders.{targets_are_drafted}
use Rattle.mb_tools_orders.proofs.laws.targets_are_shown_as_drafted.Goals as goal

pub returns : goal.returns
returns c = targets_are_drafted
