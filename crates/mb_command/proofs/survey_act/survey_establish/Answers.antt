use Rattle.std.proofs.lemmas.Result.{err_from_is_err_and}
use Rattle.mb_command.proofs.SurveyParts.{owner_stuck, establish_surveys}
use Rattle.mb_command.proofs.survey_act.survey_establish.Goals as goal

pub returns-in_err-survey_key : goal.returns-in_err-survey_key
returns-in_err-survey_key c =
    let p = err_from_is_err_and c.from_residual.result c.from_residual.ensures.1 in
    rw (p.1, p.2) (owner_stuck c.args.differs c.args.cursor.now c.survey_key.new.cursor c.in_err-survey_key.field-0.0 c.in_err-survey_key.ensures)

pub returns : goal.returns
returns c =
    establish_surveys c.args.differs c.args.cursor.now c.survey_key.new.cursor c.survey_given.new.cursor c.survey_given.result c.in_ok-survey_key.ensures c.survey_given.ensures
