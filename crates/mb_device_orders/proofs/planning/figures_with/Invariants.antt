use Rattle.mb_device_orders.proofs.Counting.{CountsAfter}
use Rattle.mb_device_orders.proofs.planning.figures_with.Given as goal

abbrev pub invariant-loop-entry : goal.invariant-loop-entry
invariant-loop-entry l = CountsAfter l.known l.figures l.entries l.entry-index
