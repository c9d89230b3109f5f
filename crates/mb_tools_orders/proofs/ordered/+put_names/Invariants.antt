use Rattle.std.proofs.Common.{length}
use Rattle.mb_tools_orders.proofs.ordered.+put_names.Given as goal

abbrev pub decreases-put_names : goal.decreases-put_names
decreases-put_names l = length l.list.now
