use Rattle.std.proofs.Common.{length}
use Rattle.mb_top.proofs.table.+call_in.Given as goal

abbrev pub decreases-call_in : goal.decreases-call_in
decreases-call_in l = length l.groups.now
