use Rattle.mb_model.specs.records.LayerFormat.{trust_format}
use Rattle.mb_model.proofs.KeyFormatLaws.{trust_exact}
use Rattle.mb_command.proofs.OrderParts.{trust_inhabited, trust_local}
use Rattle.std.proofs.lemmas.Result.{err_from_is_err_and}
use Rattle.std.proofs.Common.{arith}
use Rattle.mb_command.proofs.Surveying.{byte_open, field_lost}
use Rattle.mb_command.proofs.survey_act.survey_trust.Goals as goal

pub returns-then-left-eq0 : goal.returns-then-left-eq0
returns-then-left-eq0 c =
    byte_open (trust_format) c.args.cursor.now c.left.result trust_exact trust_inhabited c.left.ensures c.if-left-eq0.true

pub returns-in_err-trust_at : goal.returns-in_err-trust_at
returns-in_err-trust_at c =
    let p = err_from_is_err_and c.from_residual.result c.from_residual.ensures.1 in
    rw (p.1, p.2) (field_lost (trust_format) 1 c.args.cursor.now c.trust_at.new.cursor c.left.result c.in_err-trust_at.field-0.0.at trust_local c.left.ensures (omega (arith, c.if-left-eq0.false)) c.in_err-trust_at.ensures)
