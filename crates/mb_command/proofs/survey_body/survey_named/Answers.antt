use Rattle.std.proofs.lemmas.Result.{err_from_is_err_and}
use Rattle.mb_command.proofs.SurveyParts.{named_stuck, named_surveys}
use Rattle.mb_command.proofs.survey_body.survey_named.Goals as goal

pub returns-in_err-survey_u8 : goal.returns-in_err-survey_u8
returns-in_err-survey_u8 c =
    let p = err_from_is_err_and c.from_residual.result c.from_residual.ensures.1 in
    rw (p.1, p.2) (named_stuck c.args.cursor.now c.survey_u8.new.cursor c.in_err-survey_u8.field-0.0 c.in_err-survey_u8.ensures.surveys)

pub returns : goal.returns
returns c =
    named_surveys c.in_ok-survey_u8.field-0 c.args.cursor.now c.survey_u8.new.cursor c.survey_raw.new.cursor c.survey_raw.result c.in_ok-survey_u8.ensures.surveys c.survey_raw.ensures
