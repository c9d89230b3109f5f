use Rattle.std.specs.Int.{w16}
use Rattle.std.proofs.Common.{arith, refl, lit<}
use Rattle.mb_command.proofs.Partial.{partial16}
use Rattle.mb_command.proofs.Surveying.{bounded_lost, bounded_open}
use Rattle.mb_command.proofs.survey_fields.begun_u16.Goals as goal

pub returns-then-begun_short_number-most : goal.returns-then-begun_short_number-most
returns-then-begun_short_number-most c =
    rw c.offset.ensures (refl, bounded_lost w16 partial16 0 c.args.most c.args.cursor.now c.requires (omega (arith, c.begun_short_number.ensures, c.if-begun_short_number-most.true)))

pub returns-else-begun_short_number-most : goal.returns-else-begun_short_number-most
returns-else-begun_short_number-most c =
    (refl, bounded_open w16 partial16 0 c.args.most c.args.cursor.now (omega arith) (lit< tt) c.requires (omega (arith, c.begun_short_number.ensures, c.if-begun_short_number-most.false)))
