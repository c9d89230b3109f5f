use Rattle.std.proofs.lemmas.Result.{err_from_is_err_and}
use Rattle.std.proofs.Common.{arith}
use Rattle.mb_command.proofs.SurveyParts.{layer_stuck, targets_stuck, act_stuck, body_found}
use Rattle.mb_command.proofs.survey_body.survey_after_form.Goals as goal

pub returns-in_err-layer : goal.returns-in_err-layer
returns-in_err-layer c =
    let p = err_from_is_err_and c.from_residual.result c.from_residual.ensures.1 in
    rw (p.1, p.2) (layer_stuck c.args.form c.args.cursor.now c.survey_u8.new.cursor c.in_err-layer.field-0.0 (rw c.least_layer.ensures.least at c.in_err-layer.ensures.surveys))

pub returns-in_err-survey_targets : goal.returns-in_err-survey_targets
returns-in_err-survey_targets c =
    let p = err_from_is_err_and c.from_residual-in_err-survey_targets.result c.from_residual-in_err-survey_targets.ensures.1 in
    rw (p.1, p.2) (targets_stuck c.args.form c.in_ok-layer.layer c.args.cursor.now c.survey_u8.new.cursor c.survey_targets.new.cursor c.in_err-survey_targets.field-0.0 (rw c.least_layer.ensures.least at c.in_ok-layer.ensures.surveys) c.in_err-survey_targets.ensures)

pub returns-in_err-survey_act : goal.returns-in_err-survey_act
returns-in_err-survey_act c =
    let p = err_from_is_err_and c.from_residual-in_err-survey_act.result c.from_residual-in_err-survey_act.ensures.1 in
    rw (p.1, p.2) (act_stuck c.args.form c.in_ok-layer.layer c.args.cursor.now c.survey_u8.new.cursor c.survey_targets.new.cursor c.survey_act.new.cursor c.in_err-survey_act.field-0.0 (rw c.least_layer.ensures.least at c.in_ok-layer.ensures.surveys) c.in_ok-survey_targets.ensures c.in_err-survey_act.ensures)

pub returns : goal.returns
returns c =
    body_found c.args.form c.in_ok-layer.layer c.args.cursor.now c.survey_u8.new.cursor c.survey_targets.new.cursor c.survey_act.new.cursor (omega (arith, c.in_ok-layer.ensures.bounds.1)) (rw c.least_layer.ensures.least at c.in_ok-layer.ensures.surveys) c.in_ok-survey_targets.ensures c.in_ok-survey_act.ensures
