-- The indexes of the rows so far.
use Rattle.std.proofs.Common.{take}
use Rattle.mb_fleet.specs.Indexes.{AreIndexesOf}
use Rattle.mb_fleet.proofs.indexes.CodeIndexes.of_rows.Given as goal

abbrev pub invariant-loop-row : goal.invariant-loop-row
invariant-loop-row l = AreIndexesOf (take l.row-index l.rows) l.indexes
