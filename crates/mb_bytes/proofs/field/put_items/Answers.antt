use Rattle.std.proofs.lemmas.Result.{err_from_is_err_and}
use Rattle.mb_bytes.proofs.Putting.{item_is, writing_goes_on, writing_stops, writing_ends}
use Rattle.mb_bytes.proofs.field.put_items.Goals as goal

pub returns-in_err-put : goal.returns-in_err-put
returns-in_err-put g c =
    let p = err_from_is_err_and c.from_residual.result c.from_residual.ensures.1 in
    let lt = c.loop-item-test.true in
    rw p.1 (writing_stops c.item-item.result lt (item_is c.args.items.now c.loop-item.item-index c.item-item.result c.item-item.is lt) c.loop-item.invariant c.in_err-put.ensures)

pub loop-item-preserved : goal.loop-item-preserved
loop-item-preserved g c =
    let lt = c.loop-item-test.true in
    writing_goes_on c.item-item.result lt (item_is c.args.items.now c.loop-item.item-index c.item-item.result c.item-item.is lt) c.loop-item.invariant c.in_ok-put.ensures

pub returns : goal.returns
returns g c = writing_ends c.loop-item-test.false c.loop-item.invariant
