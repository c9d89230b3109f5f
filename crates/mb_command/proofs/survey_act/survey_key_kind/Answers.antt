use Rattle.mb_model.specs.records.EntryFormat.{key_kind_format}
use Rattle.mb_model.proofs.EntryFormatLaws.{key_kind_exact}
use Rattle.mb_command.proofs.OrderParts.{key_kind_inhabited, key_kind_local}
use Rattle.std.proofs.lemmas.Result.{err_from_is_err_and}
use Rattle.std.proofs.Common.{arith}
use Rattle.mb_command.proofs.Surveying.{byte_open, field_lost}
use Rattle.mb_command.proofs.survey_act.survey_key_kind.Goals as goal

pub returns-then-left-eq0 : goal.returns-then-left-eq0
returns-then-left-eq0 c =
    byte_open (key_kind_format) c.args.cursor.now c.left.result key_kind_exact key_kind_inhabited c.left.ensures c.if-left-eq0.true

pub returns-in_err-key_kind_at : goal.returns-in_err-key_kind_at
returns-in_err-key_kind_at c =
    let p = err_from_is_err_and c.from_residual.result c.from_residual.ensures.1 in
    rw (p.1, p.2) (field_lost (key_kind_format) 1 c.args.cursor.now c.key_kind_at.new.cursor c.left.result c.in_err-key_kind_at.field-0.0.at key_kind_local c.left.ensures (omega (arith, c.if-left-eq0.false)) c.in_err-key_kind_at.ensures)
