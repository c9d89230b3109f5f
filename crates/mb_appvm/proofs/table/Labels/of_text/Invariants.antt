use Rattle.std.proofs.Common.{length}
use Rattle.mb_appvm.proofs.Tables.{Cover}
use Rattle.mb_appvm.proofs.table.Labels.of_text.Given as goal

abbrev pub invariant-loop-rest : goal.invariant-loop-rest
invariant-loop-rest l = Cover l.text l.rest l.labels

abbrev pub decreases-loop-rest : goal.decreases-loop-rest
decreases-loop-rest l = length l.rest
