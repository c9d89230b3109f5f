use Rattle.std.proofs.Common.{None, ℕ, List, subst}
use Rattle.std.proofs.lemmas.Result.{err_from_is_err_and}
use Rattle.mb_bytes.specs.Puts.{Appends, StopsShort}
use Rattle.mb_fleet.specs.RegisterFormat.{last_serial, rows_format}
use Rattle.mb_bytes.proofs.Putting.{puts_then, puts_stop_later, item_is, writing_goes_on, writing_stops, writing_ends}
use Rattle.mb_fleet.proofs.Registers.{rows_begin, row_spelling}
use Rattle.mb_fleet.proofs.register.put_rows.Goals as goal

pub loop-row-init : goal.loop-row-init
loop-row-init c = (None, rows_begin c.args.rows.now c.put_u16.new.out)

pub returns-in_err-put_row : goal.returns-in_err-put_row
unfolding rows_format
returns-in_err-put_row c =
    let p = err_from_is_err_and c.from_residual-in_err-put_row.result c.from_residual-in_err-put_row.ensures.1 in
    let lt = c.loop-row-test.true in
    let last = c.loop-row.invariant.0 in
    let item = item_is c.args.rows.now c.loop-row.row-index c.row-item.result c.row-item.is lt in
    rw p.1 (puts_stop_later c.in_ok-put_u16.ensures.puts (writing_stops c.row-item.result lt item c.loop-row.invariant.1 (subst (λ (s : List ℕ). StopsShort s c.loop-row.out c.put_row.new.out) (row_spelling last c.row-item.result) c.in_err-put_row.ensures)))

pub loop-row-preserved : goal.loop-row-preserved
loop-row-preserved c =
    let lt = c.loop-row-test.true in
    let last = c.loop-row.invariant.0 in
    let item = item_is c.args.rows.now c.loop-row.row-index c.row-item.result c.row-item.is lt in
    (last_serial last c.row-item.result, writing_goes_on c.row-item.result lt item c.loop-row.invariant.1 (subst (λ (s : List ℕ). Appends s c.loop-row.out c.put_row.new.out) (row_spelling last c.row-item.result) c.in_ok-put_row.ensures))

pub returns : goal.returns
unfolding rows_format
returns c = puts_then c.in_ok-put_u16.ensures.puts (writing_ends c.loop-row-test.false c.loop-row.invariant.1)
