use Rattle.std.specs.Int.{w32}
use Rattle.mb_command.proofs.Surveying.{number_follows}
use Rattle.mb_command.proofs.Partial.{partial32}
use Rattle.mb_command.proofs.survey_fields.survey_number.Goals as goal

pub returns-in-Err : goal.returns-in-Err
returns-in-Err c =
    (c.in-Err.ensures.exactly.left.bytes, number_follows w32 partial32 c.args.cursor.now c.take_u32.new.self c.in-Err.field-0.at c.in-Err.ensures.reads)
