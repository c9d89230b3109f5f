use Rattle.std.proofs.Common.{◌-◌, length}
use Rattle.mb_assembler.proofs.Writing.{IsWrittenTo}
use Rattle.mb_assembler.proofs.labelled.write_lines.Given as goal

abbrev pub invariant-loop-place : goal.invariant-loop-place
invariant-loop-place l = IsWrittenTo l.code l.marks l.place l.text.items

abbrev pub decreases-loop-place : goal.decreases-loop-place
decreases-loop-place l = length l.code - l.place
