use Rattle.std.proofs.lemmas.Result.{err_from_is_err_and}
use Rattle.std.proofs.Common.{◌≡◌, arith, ◌-◌, ◌+◌, Ok, Err}
use Rattle.mb_format.specs.Combinators.{items}
use Rattle.mb_model.specs.records.OrderFormat.{countersignature_format, climb_after}
use Rattle.mb_model.proofs.OrderFormatLaws.{countersignature_exact}
use Rattle.mb_command.specs.Surveys.{IsLayerOf}
use Rattle.mb_command.proofs.OrderParts.{later_inhabited}
use Rattle.mb_command.proofs.SurveyParts.{above_stuck, above_surveys}
use Rattle.mb_command.proofs.SurveyLoops.{items_go_on, items_stick, items_finish}
use Rattle.mb_command.proofs.survey.survey_countersignatures.Goals as goal

pub returns-in_err-count : goal.returns-in_err-count
returns-in_err-count c =
    let p = err_from_is_err_and c.from_residual.result c.from_residual.ensures.1 in
    rw (p.1, p.2) (above_stuck c.args.heading.kind c.args.heading.layer c.args.cursor.now c.survey_u8.new.cursor c.in_err-count.field-0.0 c.requires (rw c.countersignature_limit-most.ensures at c.in_err-count.ensures.surveys))

pub loop-i-preserved : goal.loop-i-preserved
loop-i-preserved c =
    let left : c.in_ok-count.count - c.loop-i.i - 1 ≡ c.in_ok-count.count - (c.loop-i.i + 1) = omega arith in
    let found = c.in_ok-below.ensures.surveys in
    let more = items_go_on (items countersignature_format climb_after c.in_ok-count.count (record { below = c.args.heading.layer; left = c.in_ok-count.count })) countersignature_format climb_after (c.in_ok-count.count - c.loop-i.i) (c.in_ok-count.count - (c.loop-i.i + 1)) (record { below = c.loop-i.below; left = c.in_ok-count.count - c.loop-i.i }) (IsLayerOf c.in_ok-below.below) c.survey_u8.new.cursor c.loop-i.cursor c.survey_countersignature.new.cursor
    (omega (arith, c.loop-i-test.true)) (countersignature_exact (record { below = c.loop-i.below; left = c.in_ok-count.count - c.loop-i.i })) found c.loop-i.invariant.1 in
    (omega (arith, c.in_ok-below.ensures.layer, c.loop-i-test.true, c.loop-i.invariant.0), rw (found.told, left) at more)

pub returns-in_err-below : goal.returns-in_err-below
returns-in_err-below c =
    let p = err_from_is_err_and c.from_residual-in_err-below.result c.from_residual-in_err-below.ensures.1 in
    let rest = items_stick (items countersignature_format climb_after c.in_ok-count.count (record { below = c.args.heading.layer; left = c.in_ok-count.count })) countersignature_format climb_after (c.in_ok-count.count - c.loop-i.i) (c.in_ok-count.count - (c.loop-i.i + 1)) (record { below = c.loop-i.below; left = c.in_ok-count.count - c.loop-i.i }) c.survey_u8.new.cursor c.loop-i.cursor c.survey_countersignature.new.cursor c.in_err-below.field-0.0
    (omega (arith, c.loop-i-test.true)) countersignature_exact
    (λ a h. later_inhabited (c.in_ok-count.count - (c.loop-i.i + 1)) (record { below = c.loop-i.below; left = c.in_ok-count.count - c.loop-i.i }) a (record { left = omega (arith, c.loop-i-test.true); room = omega (arith, c.loop-i-test.true, c.loop-i.invariant.0) }) h) c.loop-i.invariant.1 c.in_err-below.ensures.surveys in
    rw (p.1, p.2) (above_surveys c.args.heading.kind c.args.heading.layer c.in_ok-count.count c.args.cursor.now c.survey_u8.new.cursor c.survey_countersignature.new.cursor (Err c.in_err-below.field-0.0) (rw c.countersignature_limit-most.ensures at c.in_ok-count.ensures.surveys) rest)

pub returns : goal.returns
returns c =
    above_surveys c.args.heading.kind c.args.heading.layer c.in_ok-count.count c.args.cursor.now c.survey_u8.new.cursor c.loop-i.cursor (Ok tt) (rw c.countersignature_limit-most.ensures at c.in_ok-count.ensures.surveys)
    (items_finish (items countersignature_format climb_after c.in_ok-count.count (record { below = c.args.heading.layer; left = c.in_ok-count.count })) countersignature_format climb_after (c.in_ok-count.count - c.loop-i.i) (record { below = c.loop-i.below; left = c.in_ok-count.count - c.loop-i.i }) c.survey_u8.new.cursor c.loop-i.cursor (omega (arith, c.loop-i-test.false)) c.loop-i.invariant.1)
