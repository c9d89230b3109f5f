use Rattle.std.proofs.lemmas.Result.{err_from_is_err_and}
use Rattle.mb_command.proofs.SurveyParts.{climb_stuck, climb_signature_stuck, climb_found}
use Rattle.mb_command.proofs.survey.survey_countersignature.Goals as goal

pub returns-in_err-layer-clause-surveys : goal.returns-in_err-layer-clause-surveys
returns-in_err-layer-clause-surveys c =
    let p = err_from_is_err_and c.from_residual.result c.from_residual.ensures.1 in
    rw (p.1, p.2) (climb_stuck (record { below = c.args.below; left = c.args.left }) c.args.cursor.now c.survey_u8.new.cursor c.in_err-layer.field-0.0 c.in_err-layer.ensures.surveys)

pub returns-in_err-survey_signature-clause-surveys : goal.returns-in_err-survey_signature-clause-surveys
returns-in_err-survey_signature-clause-surveys c =
    let p = err_from_is_err_and c.from_residual-in_err-survey_signature.result c.from_residual-in_err-survey_signature.ensures.1 in
    rw (p.1, p.2) (climb_signature_stuck (record { below = c.args.below; left = c.args.left }) c.in_ok-layer.layer c.args.cursor.now c.survey_u8.new.cursor c.survey_signature.new.cursor c.in_err-survey_signature.field-0.0 c.in_ok-layer.ensures.surveys c.in_err-survey_signature.ensures)

pub returns-clause-surveys : goal.returns-clause-surveys
returns-clause-surveys c =
    climb_found (record { below = c.args.below; left = c.args.left }) c.in_ok-layer.layer c.args.cursor.now c.survey_u8.new.cursor c.survey_signature.new.cursor c.in_ok-layer.ensures.surveys c.in_ok-survey_signature.ensures
