use Rattle.std.proofs.Common.{length}
use Rattle.mb_policy.specs.Meanings.{items_of}
use Rattle.mb_policy.proofs.PolicyReading.{IsReadTo}
use Rattle.mb_policy.proofs.lines.read_policy.Given as goal

abbrev pub invariant-loop-rest : goal.invariant-loop-rest
invariant-loop-rest l = IsReadTo l.text l.rest (items_of l.lines) l.number

abbrev pub decreases-loop-rest : goal.decreases-loop-rest
decreases-loop-rest l = length l.rest
