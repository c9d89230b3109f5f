use Rattle.std.proofs.Common.{Some}
use Rattle.std.specs.Int.{w16}
use Rattle.std.proofs.lemmas.Result.{err_from_is_err_and}
use Rattle.std.proofs.Common.{lit<, length}
use Rattle.mb_format.specs.Combinators.{raw, between, both}
use Rattle.mb_format.proofs.Fields.{wide16, raw_exact, between_exact}
use Rattle.mb_model.specs.records.OrderFormat.{sized_signature_format}
use Rattle.mb_command.specs.Surveys.{IsTold}
use Rattle.mb_command.proofs.Inhabited.{raw_inhabited}
use Rattle.mb_command.proofs.Surveying.{both_stuck, both_surveys, made_stuck, made_surveys}
use Rattle.mb_command.proofs.survey_fields.survey_signature.Goals as goal

pub returns-in_err-length : goal.returns-in_err-length
unfolding sized_signature_format
returns-in_err-length c =
    let p = err_from_is_err_and c.from_residual.result c.from_residual.ensures.1 in
    rw (p.1, p.2) (made_stuck (both (between w16 0 9324) raw) (λ p. p.1) (λ xs. Some (length xs, xs)) c.args.cursor.now c.survey_u16.new.cursor c.in_err-length.field-0.0 (both_stuck (between w16 0 9324) raw c.args.cursor.now c.survey_u16.new.cursor c.in_err-length.field-0.0 (between_exact wide16 (lit< tt)) (λ n h. raw_exact n) (λ n h. raw_inhabited n) c.in_err-length.ensures))

pub returns : goal.returns
unfolding sized_signature_format
returns c =
    let found = c.in_ok-length.ensures in
    made_surveys (both (between w16 0 9324) raw) (λ p. p.1) (λ xs. Some (length xs, xs)) c.args.cursor.now c.survey_raw.new.cursor c.survey_raw.result
    (both_surveys (between w16 0 9324) raw (IsTold c.in_ok-length.length) c.args.cursor.now c.survey_u16.new.cursor c.survey_raw.new.cursor c.survey_raw.result (between_exact wide16 (lit< tt)) found
    (rw found.told c.survey_raw.ensures))
