use Rattle.std.proofs.Common.{arith}
use Rattle.std.proofs.lemmas.Result.{err_from_is_err_and}
use Rattle.mb_appvm.specs.Asking.{demand_of}
use Rattle.mb_appvm.proofs.Asking.{passing_begins, passing_goes_on, passing_fails, passing_ends}
use Rattle.mb_appvm.proofs.action.pass_demands.Goals as goal

pub loop-done-init : goal.loop-done-init
loop-done-init c = passing_begins c.args.count c.args.cursor.now

pub returns-in_err-demand_at : goal.returns-in_err-demand_at
returns-in_err-demand_at c =
    let p = err_from_is_err_and c.from_residual.result c.from_residual.ensures.1 in
    rw (p.1, p.2) (passing_fails c.args.count c.loop-done._done c.in_err-demand_at.field-0.0.at c.args.cursor.now c.loop-done.cursor c.demand_at.new.cursor
    c.loop-done-test.true c.loop-done.invariant c.in_err-demand_at.ensures)

pub loop-done-preserved : goal.loop-done-preserved
loop-done-preserved c =
    passing_goes_on c.args.count c.loop-done._done (demand_of c.in_ok-demand_at.field-0) c.args.cursor.now c.loop-done.cursor c.demand_at.new.cursor
    c.loop-done-test.true c.loop-done.invariant c.in_ok-demand_at.ensures

pub returns : goal.returns
returns c = passing_ends c.args.count c.loop-done._done c.args.cursor.now c.loop-done.cursor (omega arith) c.loop-done.invariant
