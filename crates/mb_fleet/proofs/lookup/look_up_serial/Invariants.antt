-- The items so far come before the key.
use Rattle.mb_fleet.specs.Rows.{serial_of_row}
use Rattle.mb_fleet.proofs.Standing.{IsPast}
use Rattle.mb_fleet.proofs.lookup.look_up_serial.Given as goal

abbrev pub invariant-loop-index : goal.invariant-loop-index
invariant-loop-index l = IsPast serial_of_row l.rows l.serial l.index
