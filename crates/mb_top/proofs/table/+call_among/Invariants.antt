use Rattle.std.proofs.Common.{length}
use Rattle.mb_top.proofs.table.+call_among.Given as goal

abbrev pub decreases-call_among : goal.decreases-call_among
decreases-call_among l = length l.rows.now
