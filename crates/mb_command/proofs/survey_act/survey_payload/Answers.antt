use Rattle.std.proofs.lemmas.Result.{err_from_is_err_and}
use Rattle.mb_command.proofs.SurveyParts.{version_stuck, given_stuck, payload_surveys}
use Rattle.mb_command.proofs.survey_act.survey_payload.Goals as goal

pub returns-in_err-survey_number : goal.returns-in_err-survey_number
returns-in_err-survey_number c =
    let p = err_from_is_err_and c.from_residual.result c.from_residual.ensures.1 in
    rw (p.1, p.2) (version_stuck c.args.differs c.args.cursor.now c.survey_number.new.cursor c.in_err-survey_number.field-0.0 c.in_err-survey_number.ensures)

pub returns-in_err-survey_given : goal.returns-in_err-survey_given
returns-in_err-survey_given c =
    let p = err_from_is_err_and c.from_residual-in_err-survey_given.result c.from_residual-in_err-survey_given.ensures.1 in
    rw (p.1, p.2) (given_stuck c.args.differs c.args.cursor.now c.survey_number.new.cursor c.survey_given.new.cursor c.in_err-survey_given.field-0.0 c.in_ok-survey_number.ensures c.in_err-survey_given.ensures)

pub returns : goal.returns
returns c =
    payload_surveys c.args.differs c.args.cursor.now c.survey_number.new.cursor c.survey_given.new.cursor c.survey_code.new.cursor c.survey_code.result c.in_ok-survey_number.ensures c.in_ok-survey_given.ensures c.survey_code.ensures
