use Rattle.std.proofs.Common.{Some}
use Rattle.std.proofs.lemmas.Result.{err_from_is_err_and}
use Rattle.mb_model.proofs.HeaderFormatLaws.{header_exact}
use Rattle.mb_segments.proofs.Begun.{begins_read, fails_read}
use Rattle.mb_segments.proofs.header.read_header.Goals as goal

pub returns-in_err-stored : goal.returns-in_err-stored
returns-in_err-stored c =
    let p = err_from_is_err_and c.from_residual.result c.from_residual.ensures.1 in
    let start = c.new-cursor.ensures in
    rw (p.1, p.2) (fails_read c.new-cursor.result _ c.args.sector.now header_exact start.all start.first (Some c.in_err-stored.field-0.0.at) c.in_err-stored.ensures)

pub returns : goal.returns
returns c =
    let start = c.new-cursor.ensures in
    rw c.in_ok-copy_header.ensures (begins_read c.args.sector.now header_exact start.all start.first c.in_ok-stored.ensures)
