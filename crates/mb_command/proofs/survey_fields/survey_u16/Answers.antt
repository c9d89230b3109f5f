use Rattle.std.specs.Int.{w16}
use Rattle.mb_format.specs.Combinators.{between}
use Rattle.mb_format.proofs.Bounds.{between_local}
use Rattle.std.proofs.lemmas.Result.{err_from_is_err_and}
use Rattle.std.proofs.Common.{arith}
use Rattle.mb_command.proofs.Surveying.{field_lost}
use Rattle.mb_command.proofs.survey_fields.survey_u16.Goals as goal

pub returns-in_err-u16_between : goal.returns-in_err-u16_between
returns-in_err-u16_between c =
    let p = err_from_is_err_and c.from_residual.result c.from_residual.ensures.1 in
    rw (p.1, p.2) (field_lost (between w16 0 c.args.most) 2 c.args.cursor.now c.u16_between.new.cursor c.left.result c.in_err-u16_between.field-0.0.at (between_local w16 0 c.args.most) c.left.ensures (omega (arith, c.if-left-lt2.false)) c.in_err-u16_between.ensures.reads)

pub begun_u16-requires : goal.begun_u16-requires
begun_u16-requires c =
    omega (arith, c.left.ensures, c.if-left-lt2.true)
