use Rattle.std.proofs.Common.{None}
use Rattle.mb_fleet.specs.RegisterFormat.{row_format, last_serial}
use Rattle.mb_bytes.proofs.Reading.{IsReading}
use Rattle.mb_fleet.proofs.register.rows_at.Given as goal

abbrev pub invariant-loop-i : goal.invariant-loop-i
invariant-loop-i l = IsReading row_format last_serial l.count l._i None l.last l.rows l.initial.cursor l.cursor
