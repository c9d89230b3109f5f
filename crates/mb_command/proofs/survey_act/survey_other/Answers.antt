use Rattle.std.specs.Int.{w8}
use Rattle.mb_format.specs.Combinators.{listed}
use Rattle.mb_format.proofs.Bounds.{listed_local}
use Rattle.mb_model.specs.records.LayerFormat.{trust_byte}
use Rattle.mb_model.specs.records.OrderFormat.{other_rows}
use Rattle.mb_command.proofs.OrderParts.{other_exact, other_inhabited}
use Rattle.std.proofs.lemmas.Result.{err_from_is_err_and}
use Rattle.std.proofs.Common.{arith}
use Rattle.mb_command.proofs.Surveying.{byte_open, field_lost}
use Rattle.mb_command.proofs.survey_act.survey_other.Goals as goal

pub returns-then-left-eq0 : goal.returns-then-left-eq0
returns-then-left-eq0 c =
    byte_open (listed w8 (other_rows c.args.one) trust_byte) c.args.cursor.now c.left.result (other_exact c.args.one) (other_inhabited c.args.one) c.left.ensures c.if-left-eq0.true

pub returns-in_err-other_trust_at : goal.returns-in_err-other_trust_at
returns-in_err-other_trust_at c =
    let p = err_from_is_err_and c.from_residual.result c.from_residual.ensures.1 in
    rw (p.1, p.2) (field_lost (listed w8 (other_rows c.args.one) trust_byte) 1 c.args.cursor.now c.other_trust_at.new.cursor c.left.result c.in_err-other_trust_at.field-0.0.at (listed_local w8 (other_rows c.args.one) trust_byte) c.left.ensures (omega (arith, c.if-left-eq0.false)) c.in_err-other_trust_at.ensures)
