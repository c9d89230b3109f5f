use Rattle.std.proofs.lemmas.Result.{err_from_is_err_and}
use Rattle.mb_command.proofs.SurveyParts.{order_stuck, signature_stuck, order_surveys}
use Rattle.mb_command.proofs.survey.survey_order.Goals as goal

pub returns-in_err-heading : goal.returns-in_err-heading
returns-in_err-heading c =
    let p = err_from_is_err_and c.from_residual.result c.from_residual.ensures.1 in
    rw (p.1, p.2) (order_stuck c.args.cursor.now c.survey_body.new.cursor c.in_err-heading.field-0.0 c.in_err-heading.ensures)

pub returns-in_err-survey_signature : goal.returns-in_err-survey_signature
returns-in_err-survey_signature c =
    let p = err_from_is_err_and c.from_residual-in_err-survey_signature.result c.from_residual-in_err-survey_signature.ensures.1 in
    rw (p.1, p.2) (signature_stuck c.in_ok-heading.heading c.args.cursor.now c.survey_body.new.cursor c.survey_signature.new.cursor c.in_err-survey_signature.field-0.0 c.in_ok-heading.ensures c.in_err-survey_signature.ensures)

pub returns : goal.returns
returns c =
    order_surveys c.in_ok-heading.heading c.args.cursor.now c.survey_body.new.cursor c.survey_signature.new.cursor c.survey_countersignatures.new.cursor c.survey_countersignatures.result c.in_ok-heading.ensures c.in_ok-survey_signature.ensures c.survey_countersignatures.ensures

pub survey_countersignatures-requires : goal.survey_countersignatures-requires
survey_countersignatures-requires c =
    c.in_ok-heading.ensures.told.most
