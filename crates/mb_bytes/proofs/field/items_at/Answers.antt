use Rattle.std.proofs.lemmas.Result.{err_from_is_err_and}
use Rattle.mb_bytes.specs.Ends.{end_at}
use Rattle.mb_bytes.proofs.Reading.{reading_goes_on, reading_fails_at, reading_ends}
use Rattle.mb_bytes.proofs.field.items_at.Goals as goal

pub returns : goal.returns
returns g c = reading_ends c.loop-i-test.false c.loop-i.invariant

pub returns-in_err-item : goal.returns-in_err-item
returns-in_err-item g c =
    let p = err_from_is_err_and c.from_residual.result c.from_residual.ensures.1 in
    rw (p.1, p.2) (reading_fails_at c.item_at.new.cursor (end_at c.in_err-item.field-0.0) c.loop-i-test.true c.loop-i.invariant c.in_err-item.ensures)

pub loop-i-preserved : goal.loop-i-preserved
loop-i-preserved g c = rw c.in_ok-push.ensures.ok (reading_goes_on c.in_ok-item.item c.loop-i-test.true c.loop-i.invariant c.in_ok-item.ensures)
