use Rattle.std.proofs.Common.{arith}
use Rattle.mb_command.proofs.Surveying.{raw_few}
use Rattle.mb_command.proofs.survey_fields.begun_number.Goals as goal

pub unreachable-requires : goal.unreachable-requires
unreachable-requires c =
    let few = raw_few c.left-left.result c.args.cursor.now c.take_slice.new.self c.in-Err.field-0.at c.in-Err.ensures.reads in
    omega (arith, few, c.left-left.ensures)
