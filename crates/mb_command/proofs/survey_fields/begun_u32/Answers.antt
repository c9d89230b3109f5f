use Rattle.std.specs.Int.{w32}
use Rattle.std.proofs.Common.{arith, refl}
use Rattle.mb_command.proofs.Partial.{partial32}
use Rattle.mb_command.proofs.Surveying.{bounded_lost, bounded_open}
use Rattle.mb_command.proofs.survey_fields.begun_u32.Goals as goal

pub returns-then-begun_number-most : goal.returns-then-begun_number-most
returns-then-begun_number-most c least bounds small =
    rw c.offset.ensures (refl, bounded_lost w32 partial32 least c.args.most c.args.cursor.now c.requires (omega (arith, c.begun_number.ensures, c.if-begun_number-most.true)))

pub returns-else-begun_number-most : goal.returns-else-begun_number-most
returns-else-begun_number-most c least bounds small =
    (refl, bounded_open w32 partial32 least c.args.most c.args.cursor.now bounds small c.requires (omega (arith, c.begun_number.ensures, c.if-begun_number-most.false)))
