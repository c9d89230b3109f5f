use Rattle.mb_device_regions.proofs.Stated.{finds_room}
use Rattle.mb_device_regions.proofs.signing.make_statement.Goals as goal

pub unreachable-requires : goal.unreachable-requires
unreachable-requires g c = finds_room c.statement_with-statement.result c.statement_with-statement.ensures.allowed c.in-Err.ensures c.args.sheet.none c.args.sheet.room
