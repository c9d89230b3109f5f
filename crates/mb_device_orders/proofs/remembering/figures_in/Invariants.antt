use Rattle.mb_device_orders.proofs.Counting.{Counts}
use Rattle.mb_device_orders.proofs.remembering.figures_in.Given as goal

abbrev pub invariant-loop-position : goal.invariant-loop-position
invariant-loop-position g l = Counts (g.B.Board.seen l.b).memory.flash l.signed l.figures l.position
