use Rattle.std.specs.Int.{w8}
use Rattle.mb_format.specs.Combinators.{between}
use Rattle.mb_format.proofs.Fields.{wide8, between_exact}
use Rattle.mb_format.proofs.Bounds.{between_local}
use Rattle.mb_command.proofs.OrderParts.{byte_inhabited}
use Rattle.std.proofs.lemmas.Result.{err_from_is_err_and}
use Rattle.std.proofs.Common.{arith}
use Rattle.mb_command.proofs.Surveying.{byte_open, field_lost}
use Rattle.mb_command.proofs.survey_fields.survey_u8.Goals as goal

pub returns-then-left-eq0-clause-surveys : goal.returns-then-left-eq0-clause-surveys
returns-then-left-eq0-clause-surveys c =
    byte_open (between w8 c.args.least c.args.most) c.args.cursor.now c.left.result (between_exact wide8 (omega (arith, c.ranges.most.fits))) (byte_inhabited c.args.least c.args.most c.requires (omega (arith, c.requires, c.ranges.most.fits))) c.left.ensures c.if-left-eq0.true

pub returns-in_err-u8_between-clause-surveys : goal.returns-in_err-u8_between-clause-surveys
returns-in_err-u8_between-clause-surveys c =
    let p = err_from_is_err_and c.from_residual.result c.from_residual.ensures.1 in
    rw (p.1, p.2) (field_lost (between w8 c.args.least c.args.most) 1 c.args.cursor.now c.u8_between.new.cursor c.left.result c.in_err-u8_between.field-0.0.at (between_local w8 c.args.least c.args.most) c.left.ensures (omega (arith, c.if-left-eq0.false)) c.in_err-u8_between.ensures.reads)
