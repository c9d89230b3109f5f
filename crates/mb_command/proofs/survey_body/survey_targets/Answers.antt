use Rattle.std.proofs.lemmas.Result.{err_from_is_err_and}
use Rattle.std.proofs.Common.{arith, ◌-◌, ◌+◌, Ok, Err}
use Rattle.mb_format.specs.Combinators.{times}
use Rattle.mb_model.specs.records.OrderFormat.{target_format}
use Rattle.mb_model.proofs.OrderFormatLaws.{target_exact}
use Rattle.mb_command.specs.Surveys.{NothingTold}
use Rattle.mb_command.proofs.Inhabited.{times_inhabited}
use Rattle.mb_command.proofs.OrderParts.{target_inhabited}
use Rattle.mb_command.proofs.SurveyParts.{targets_led, count_stuck}
use Rattle.mb_command.proofs.SurveyLoops.{items_go_on, items_stick, items_finish}
use Rattle.mb_command.proofs.survey_body.survey_targets.Goals as goal

pub returns-in_err-count : goal.returns-in_err-count
returns-in_err-count c =
    let p = err_from_is_err_and c.from_residual.result c.from_residual.ensures.1 in
    rw (p.1, p.2) (count_stuck c.args.cursor.now c.survey_u8.new.cursor c.in_err-count.field-0.0 c.in_err-count.ensures.surveys)

pub loop-i-preserved : goal.loop-i-preserved
loop-i-preserved c =
    items_go_on (times c.in_ok-count.count target_format) (λ (u : Unit {0}). target_format) (λ u a. u) (c.in_ok-count.count - c.loop-i._i) (c.in_ok-count.count - (c.loop-i._i + 1)) tt (NothingTold tt) c.survey_u8.new.cursor c.loop-i.cursor c.survey_target.new.cursor
    (omega (arith, c.loop-i-test.true)) target_exact c.in_ok-survey_target.ensures c.loop-i.invariant

pub returns-in_err-survey_target : goal.returns-in_err-survey_target
returns-in_err-survey_target c =
    let p = err_from_is_err_and c.from_residual-in_err-survey_target.result c.from_residual-in_err-survey_target.ensures.1 in
    rw (p.1, p.2) (targets_led c.in_ok-count.count c.args.cursor.now c.survey_u8.new.cursor c.survey_target.new.cursor (Err c.in_err-survey_target.field-0.0) c.in_ok-count.ensures.surveys
    (items_stick (times c.in_ok-count.count target_format) (λ (u : Unit {0}). target_format) (λ u a. u) (c.in_ok-count.count - c.loop-i._i) (c.in_ok-count.count - (c.loop-i._i + 1)) tt c.survey_u8.new.cursor c.loop-i.cursor c.survey_target.new.cursor c.in_err-survey_target.field-0.0
    (omega (arith, c.loop-i-test.true)) (λ u. target_exact) (λ a h. times_inhabited (c.in_ok-count.count - (c.loop-i._i + 1)) target_inhabited) c.loop-i.invariant c.in_err-survey_target.ensures))

pub returns : goal.returns
returns c =
    targets_led c.in_ok-count.count c.args.cursor.now c.survey_u8.new.cursor c.loop-i.cursor (Ok tt) c.in_ok-count.ensures.surveys
    (items_finish (times c.in_ok-count.count target_format) (λ (u : Unit {0}). target_format) (λ u a. u) (c.in_ok-count.count - c.loop-i._i) tt c.survey_u8.new.cursor c.loop-i.cursor (omega (arith, c.loop-i-test.false)) c.loop-i.invariant)
