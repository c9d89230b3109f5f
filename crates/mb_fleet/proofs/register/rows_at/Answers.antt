use Rattle.std.proofs.lemmas.Result.{err_from_is_err_and}
use Rattle.std.specs.Prelude.{None}
use Rattle.std.specs.Int.{w16}
use Rattle.mb_format.specs.Combinators.{between}
use Rattle.mb_bytes.specs.Ends.{end_at}
use Rattle.mb_fleet.specs.RegisterFormat.{row_format, last_serial, rows_format}
use Rattle.mb_bytes.proofs.Reading.{led_ok, reading_goes_on, reading_ends, list_fails_at}
use Rattle.mb_fleet.proofs.register.rows_at.Goals as goal

pub returns : goal.returns
unfolding rows_format
returns c = led_ok c.in_ok-count.ensures.reads (reading_ends c.loop-i-test.false c.loop-i.invariant)

pub returns-in_err-row : goal.returns-in_err-row
unfolding rows_format
returns-in_err-row c =
    let p = err_from_is_err_and c.from_residual-in_err-row.result c.from_residual-in_err-row.ensures.1 in
    let at = end_at c.in_err-row.field-0.0 in
    rw (p.1, p.2) (list_fails_at (between w16 0 512) row_format last_serial (λ n. None) c.row_at.new.cursor at c.in_ok-count.ensures.reads c.loop-i-test.true c.loop-i.invariant c.in_err-row.ensures)

pub loop-i-preserved : goal.loop-i-preserved
loop-i-preserved c = rw c.in_ok-push.ensures.ok (reading_goes_on c.in_ok-row.row c.loop-i-test.true c.loop-i.invariant c.in_ok-row.ensures)
