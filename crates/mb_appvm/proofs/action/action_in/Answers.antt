use Rattle.std.proofs.Common.{ap, ◌∙◌, length, arith, Some}
use Rattle.std.proofs.lemmas.Result.{err_from_is_err_and}
use Rattle.mb_bytes.proofs.Exactly.{whole_read, whole_left, whole_failed_at}
use Rattle.mb_model_lemmas.proofs.OneCallLemmas.{action_exact}
use Rattle.mb_appvm.proofs.action.action_in.Goals as goal

pub returns-in_err-action : goal.returns-in_err-action
returns-in_err-action c =
    let p = err_from_is_err_and c.from_residual.result c.from_residual.ensures.1 in
    let start = c.new-cursor.ensures in
    rw (p.1, p.2) (whole_failed_at c.new-cursor.result c.action_at.new.cursor c.args.output.now action_exact start.all start.first (Some c.in_err-action.field-0.0.at)
    c.in_err-action.ensures)

pub returns-then-left-gt0 : goal.returns-then-left-gt0
returns-then-left-gt0 c =
    let start = c.new-cursor.ensures in
    let read = c.in_ok-action.ensures in
    let size = ap length (read.bytes ∙ start.all) in
    rw c.offset.ensures (whole_left c.args.output.now action_exact start.all start.first read (omega (arith, size, c.left.ensures)))

pub returns : goal.returns
returns c =
    let start = c.new-cursor.ensures in
    let read = c.in_ok-action.ensures in
    let size = ap length (read.bytes ∙ start.all) in
    whole_read c.args.output.now action_exact start.all start.first read (omega (arith, size, c.left.ensures))
