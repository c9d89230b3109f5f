use Rattle.std.proofs.Common.{length}
use Rattle.mb_appvm.proofs.ReadLines.{IsReadTo}
use Rattle.mb_appvm.proofs.assembling.read_lines.Given as goal

abbrev pub invariant-loop-line : goal.invariant-loop-line
invariant-loop-line l = IsReadTo l.text l.said.items l.rest

abbrev pub decreases-loop-line : goal.decreases-loop-line
decreases-loop-line l = length l.rest
