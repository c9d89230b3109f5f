use Rattle.std.proofs.lemmas.Result.{err_from_is_err_and}
use Rattle.mb_command.proofs.SurveyParts.{one_stuck, one_found}
use Rattle.mb_command.proofs.survey_act.survey_one.Goals as goal

pub returns-in_err-survey_trust : goal.returns-in_err-survey_trust
returns-in_err-survey_trust c =
    let p = err_from_is_err_and c.from_residual.result c.from_residual.ensures.1 in
    rw (p.1, p.2) (one_stuck c.args.cursor.now c.survey_trust.new.cursor c.in_err-survey_trust.field-0.0 c.in_err-survey_trust.ensures)

pub returns : goal.returns
returns c =
    one_found c.in_ok-survey_trust.field-0 c.args.cursor.now c.survey_trust.new.cursor c.in_ok-survey_trust.ensures
