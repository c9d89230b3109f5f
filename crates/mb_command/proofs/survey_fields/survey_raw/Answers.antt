use Rattle.mb_command.proofs.Surveying.{raw_open}
use Rattle.mb_command.proofs.survey_fields.survey_raw.Goals as goal

pub returns-in-Err : goal.returns-in-Err
returns-in-Err c =
    (c.in-Err.ensures.exactly.left.bytes, raw_open c.args.count c.args.cursor.now c.take_slice.new.self c.in-Err.field-0.at c.in-Err.ensures.reads)
