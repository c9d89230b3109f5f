use Rattle.std.proofs.Common.{take}
use Rattle.mb_appvm.specs.Labels.{AreOfLines}
use Rattle.mb_appvm.proofs.table.Labels.of_lines.Given as goal

abbrev pub invariant-loop-at : goal.invariant-loop-at
invariant-loop-at l = AreOfLines (take l.at l.said) l.labels
