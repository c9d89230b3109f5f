use Rattle.mb_model.proofs.HeaderFormatLaws.{header_exact}
use Rattle.mb_segments.proofs.Begun.{begins_read, begins_none}
use Rattle.mb_segments.proofs.header.header_at.Goals as goal

pub returns-in-Ok : goal.returns-in-Ok
returns-in-Ok c =
    let start = c.new-cursor.ensures in
    begins_read c.args.sector.now header_exact start.all start.first c.in-Ok.ensures

pub returns-in-Err : goal.returns-in-Err
returns-in-Err c =
    let start = c.new-cursor.ensures in
    begins_none c.args.sector.now header_exact start.all start.first c.in-Err.ensures
