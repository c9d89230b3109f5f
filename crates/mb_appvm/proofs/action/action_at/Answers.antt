use Rattle.std.proofs.lemmas.Result.{err_from_is_err_and}
use Rattle.mb_appvm.proofs.Asking.{action_read, number_fails, list_fails, answer_fails}
use Rattle.mb_appvm.proofs.action.action_at.Goals as goal

pub returns-in_err-left : goal.returns-in_err-left
returns-in_err-left c =
    let p = err_from_is_err_and c.from_residual.result c.from_residual.ensures.1 in
    rw (p.1, p.2) (number_fails c.in_err-left.field-0.0.at c.args.cursor.now c.take_u8.new.self c.in_err-left.ensures.reads)

pub returns-in_err-pass_demands : goal.returns-in_err-pass_demands
returns-in_err-pass_demands c =
    let p = err_from_is_err_and c.from_residual-in_err-pass_demands.result c.from_residual-in_err-pass_demands.ensures.1 in
    rw (p.1, p.2) (list_fails c.in_ok-left.left c.in_err-pass_demands.field-0.0.at c.args.cursor.now c.take_u8.new.self c.pass_demands.new.cursor
    c.in_ok-left.ensures.reads c.in_err-pass_demands.ensures)

pub returns-in_err-answer : goal.returns-in_err-answer
returns-in_err-answer c =
    let p = err_from_is_err_and c.from_residual-in_err-answer.result c.from_residual-in_err-answer.ensures.1 in
    rw (p.1, p.2) (answer_fails c.in_ok-left.left c.in_err-answer.field-0.0.at c.in_ok-pass_demands.ensures.0 c.args.cursor.now c.take_u8.new.self
    c.pass_demands.new.cursor c.bytes_after_u8.new.cursor c.in_ok-left.ensures.reads c.in_ok-pass_demands.ensures.1 c.in_err-answer.ensures)

pub returns : goal.returns
returns c =
    action_read c.in_ok-left.left c.in_ok-pass_demands.ensures.0 c.in_ok-answer.answer.now c.args.cursor.now c.take_u8.new.self c.pass_demands.new.cursor
    c.bytes_after_u8.new.cursor c.in_ok-left.ensures.reads c.in_ok-pass_demands.ensures.1 c.in_ok-answer.ensures
