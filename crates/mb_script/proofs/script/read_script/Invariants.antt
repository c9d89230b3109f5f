use Rattle.std.proofs.Common.{length}
use Rattle.mb_script.proofs.ScriptReading.{IsReadTo}
use Rattle.mb_script.proofs.script.read_script.Given as goal

abbrev pub invariant-loop-rest : goal.invariant-loop-rest
invariant-loop-rest l = IsReadTo l.text l.rest l.events l.number

abbrev pub decreases-loop-rest : goal.decreases-loop-rest
decreases-loop-rest l = length l.rest
