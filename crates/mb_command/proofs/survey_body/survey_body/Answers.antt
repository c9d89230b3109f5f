use Rattle.std.proofs.lemmas.Result.{err_from_is_err_and}
use Rattle.mb_command.proofs.SurveyParts.{form_stuck, body_surveys}
use Rattle.mb_command.proofs.survey_body.survey_body.Goals as goal

pub returns-in_err-form : goal.returns-in_err-form
returns-in_err-form c =
    let p = err_from_is_err_and c.from_residual.result c.from_residual.ensures.1 in
    rw (p.1, p.2) (form_stuck c.args.cursor.now c.survey_form.new.cursor c.in_err-form.field-0.0 c.in_err-form.ensures)

pub returns : goal.returns
returns c =
    body_surveys c.in_ok-form.form c.args.cursor.now c.survey_form.new.cursor c.survey_after_form.new.cursor c.survey_after_form.result c.in_ok-form.ensures c.survey_after_form.ensures
