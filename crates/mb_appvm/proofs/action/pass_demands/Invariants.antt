use Rattle.mb_appvm.proofs.Asking.{HasPassed}
use Rattle.mb_appvm.proofs.action.pass_demands.Given as goal

abbrev pub invariant-loop-done : goal.invariant-loop-done
invariant-loop-done l = HasPassed l.count l._done l.initial.cursor l.cursor
