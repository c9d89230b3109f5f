use Rattle.std.proofs.Common.{length}
use Rattle.mb_script.proofs.EventLines.{IsPassedTo}
use Rattle.mb_script.proofs.script.line_of.Given as goal

abbrev pub invariant-loop-rest : goal.invariant-loop-rest
invariant-loop-rest l = IsPassedTo l.text l.rest l.passed l.number l.index

abbrev pub decreases-loop-rest : goal.decreases-loop-rest
decreases-loop-rest l = length l.rest
