use Rattle.std.proofs.lemmas.Result.{err_from_is_err_and}
use Rattle.mb_command.proofs.SurveyParts.{differing_stuck, differing_surveys}
use Rattle.mb_command.proofs.survey_act.survey_differing.Goals as goal

pub returns-in_err-one : goal.returns-in_err-one
returns-in_err-one c =
    let p = err_from_is_err_and c.from_residual.result c.from_residual.ensures.1 in
    rw (p.1, p.2) (differing_stuck c.args.cursor.now c.survey_trust.new.cursor c.in_err-one.field-0.0 c.in_err-one.ensures)

pub returns : goal.returns
returns c =
    differing_surveys c.in_ok-one.one c.args.cursor.now c.survey_trust.new.cursor c.survey_other.new.cursor c.survey_other.result c.in_ok-one.ensures c.survey_other.ensures
