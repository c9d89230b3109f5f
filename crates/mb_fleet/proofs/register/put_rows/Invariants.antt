-- The rows so far are written, after some row or none.
use Rattle.std.proofs.Common.{None, Option, List, ℕ}
use Rattle.mb_fleet.specs.RegisterFormat.{row_format, last_serial}
use Rattle.mb_bytes.proofs.Putting.{IsWriting}
use Rattle.mb_fleet.proofs.register.put_rows.Given as goal

abbrev pub invariant-loop-row : goal.invariant-loop-row
invariant-loop-row l = (last : Option (List ℕ)) × IsWriting row_format last_serial l.fn.rows l.row-index None last l.initial.out l.out
