use Rattle.mb_command.specs.Surveys.{IsTold}
use Rattle.std.specs.Int.{w32}
use Rattle.std.proofs.lemmas.Result.{err_from_is_err_and}
use Rattle.mb_format.specs.Combinators.{row_of, table}
use Rattle.mb_model.specs.signatures.Key.{chains_type}
use Rattle.mb_model.specs.records.KeyFormat.{chains_rows}
use Rattle.mb_command.proofs.OrderParts.{chains_are, chains_numbered}
use Rattle.mb_command.proofs.Surveying.{forget, table_found, table_stuck}
use Rattle.mb_command.proofs.survey_fields.survey_chains.Goals as goal

pub returns-in_err-survey_u32 : goal.returns-in_err-survey_u32
returns-in_err-survey_u32 c =
    let p = err_from_is_err_and c.from_residual.result c.from_residual.ensures.1 in
    rw (p.1, p.2) (table_stuck w32 chains_type (λ a. Unit {0}) (row_of chains_rows) 1 4 chains_numbered c.args.cursor.now c.survey_u32.new.cursor c.in_err-survey_u32.field-0.0 chains_are c.in_err-survey_u32.ensures)

pub returns : goal.returns
returns c =
    forget (table w32 chains_rows chains_type) (IsTold (chains_numbered c.in_ok-survey_u32.field-0)) c.args.cursor.now c.survey_u32.new.cursor (table_found w32 chains_type (λ a. Unit {0}) (row_of chains_rows) 1 4 c.in_ok-survey_u32.field-0 chains_numbered c.args.cursor.now c.survey_u32.new.cursor chains_are c.in_ok-survey_u32.ensures)
