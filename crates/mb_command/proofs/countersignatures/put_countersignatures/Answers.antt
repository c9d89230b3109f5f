use Rattle.std.proofs.lemmas.Result.{err_from_is_err_and}
use Rattle.mb_bytes.proofs.Putting.{item_is, puts_then, puts_stop, puts_stop_later, writing_goes_on, writing_stops, writing_ends}
use Rattle.mb_model.proofs.OrderFormatLaws.{countersignatures_spelling}
use Rattle.mb_command.specs.Parts.{any_climb}
use Rattle.mb_command.proofs.countersignatures.put_countersignatures.Goals as goal

pub returns-in_err-put_countersignature : goal.returns-in_err-put_countersignature
returns-in_err-put_countersignature c = λ body. (
    let p = err_from_is_err_and c.from_residual-in_err-put_countersignature.result c.from_residual-in_err-put_countersignature.ensures.1 in
    let lt = rw c.as_slice-countersignature-items.ensures at c.loop-countersignature-test.true in
    let item = item_is c.args.list.now c.loop-countersignature.countersignature-index c.countersignature-item.result (rw c.as_slice-countersignature-items.ensures at c.countersignature-item.is) lt in
    rw (p.1, countersignatures_spelling body c.args.list.now any_climb) (puts_stop_later (rw c.as_slice.ensures at c.in_ok-put_u8.ensures.puts) (writing_stops c.countersignature-item.result lt item c.loop-countersignature.invariant c.in_err-put_countersignature.ensures)))

pub returns-in_err-put_u8 : goal.returns-in_err-put_u8
returns-in_err-put_u8 c = λ body. (
    let p = err_from_is_err_and c.from_residual.result c.from_residual.ensures.1 in
    rw (p.1, countersignatures_spelling body c.args.list.now any_climb) (puts_stop _ (rw c.as_slice.ensures at c.in_err-put_u8.ensures.puts)))

pub loop-countersignature-preserved : goal.loop-countersignature-preserved
loop-countersignature-preserved c =
    let lt = rw c.as_slice-countersignature-items.ensures at c.loop-countersignature-test.true in
    let item = item_is c.args.list.now c.loop-countersignature.countersignature-index c.countersignature-item.result (rw c.as_slice-countersignature-items.ensures at c.countersignature-item.is) lt in
    writing_goes_on c.countersignature-item.result lt item c.loop-countersignature.invariant c.in_ok-put_countersignature.ensures

pub returns : goal.returns
returns c = λ body. (
    let le = rw c.as_slice-countersignature-items.ensures at c.loop-countersignature-test.false in
    rw (countersignatures_spelling body c.args.list.now any_climb) (puts_then (rw c.as_slice.ensures at c.in_ok-put_u8.ensures.puts) (writing_ends le c.loop-countersignature.invariant)))
