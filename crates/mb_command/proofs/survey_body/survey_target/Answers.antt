use Rattle.std.proofs.lemmas.Result.{err_from_is_err_and}
use Rattle.std.proofs.Common.{arith}
use Rattle.mb_command.proofs.SurveyParts.{tag_stuck, serial_surveys, length_surveys, hashed_surveys}
use Rattle.mb_command.proofs.survey_body.survey_target.Goals as goal

pub returns-in_err-survey_u8 : goal.returns-in_err-survey_u8
returns-in_err-survey_u8 c =
    let p = err_from_is_err_and c.from_residual.result c.from_residual.ensures.1 in
    rw (p.1, p.2) (tag_stuck c.args.cursor.now c.survey_u8.new.cursor c.in_err-survey_u8.field-0.0 c.in_err-survey_u8.ensures.surveys)

pub returns-in-1 : goal.returns-in-1
returns-in-1 c =
    serial_surveys c.in_ok-survey_u8.field-0 c.args.cursor.now c.survey_u8.new.cursor c.survey_raw.new.cursor c.survey_raw.result c.in-1.is c.in_ok-survey_u8.ensures.surveys c.survey_raw.ensures

pub returns-in-2 : goal.returns-in-2
returns-in-2 c =
    length_surveys c.in_ok-survey_u8.field-0 c.args.cursor.now c.survey_u8.new.cursor c.survey_number.new.cursor c.survey_number.result c.in-2.is c.in_ok-survey_u8.ensures.surveys c.survey_number.ensures

pub returns-in_default : goal.returns-in_default
returns-in_default c =
    hashed_surveys c.in_ok-survey_u8.field-0 c.args.cursor.now c.survey_u8.new.cursor c.survey_named.new.cursor c.survey_named.result (omega (arith, c.in_default, c.in_ok-survey_u8.ensures.bounds)) (omega (arith, c.in_ok-survey_u8.ensures.bounds)) c.in_ok-survey_u8.ensures.surveys c.survey_named.ensures
