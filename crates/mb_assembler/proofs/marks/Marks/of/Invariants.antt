use Rattle.std.proofs.Common.{◌-◌, length}
use Rattle.mb_assembler.proofs.Places.{AreMarkedTo}
use Rattle.mb_assembler.proofs.marks.Marks.of.Given as goal

abbrev pub invariant-loop-place : goal.invariant-loop-place
invariant-loop-place l = AreMarkedTo l.code l.place l.marks

abbrev pub decreases-loop-place : goal.decreases-loop-place
decreases-loop-place l = length l.code - l.place
