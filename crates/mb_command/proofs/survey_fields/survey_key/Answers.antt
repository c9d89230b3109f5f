use Rattle.std.proofs.lemmas.Result.{err_from_is_err_and}
use Rattle.mb_command.proofs.SurveyParts.{key_tree_stuck, key_chains_stuck, key_identifier_stuck, key_surveys}
use Rattle.mb_command.proofs.survey_fields.survey_key.Goals as goal

pub returns-in_err-survey_tree : goal.returns-in_err-survey_tree
returns-in_err-survey_tree c =
    let p = err_from_is_err_and c.from_residual.result c.from_residual.ensures.1 in
    rw (p.1, p.2) (key_tree_stuck c.args.cursor.now c.survey_tree.new.cursor c.in_err-survey_tree.field-0.0 c.in_err-survey_tree.ensures)

pub returns-in_err-survey_chains : goal.returns-in_err-survey_chains
returns-in_err-survey_chains c =
    let p = err_from_is_err_and c.from_residual-in_err-survey_chains.result c.from_residual-in_err-survey_chains.ensures.1 in
    rw (p.1, p.2) (key_chains_stuck c.args.cursor.now c.survey_tree.new.cursor c.survey_chains.new.cursor c.in_err-survey_chains.field-0.0 c.in_ok-survey_tree.ensures c.in_err-survey_chains.ensures)

pub returns-in_err-survey_raw : goal.returns-in_err-survey_raw
returns-in_err-survey_raw c =
    let p = err_from_is_err_and c.from_residual-in_err-survey_raw.result c.from_residual-in_err-survey_raw.ensures.1 in
    rw (p.1, p.2) (key_identifier_stuck c.args.cursor.now c.survey_tree.new.cursor c.survey_chains.new.cursor c.survey_raw.new.cursor c.in_err-survey_raw.field-0.0 c.in_ok-survey_tree.ensures c.in_ok-survey_chains.ensures c.in_err-survey_raw.ensures)

pub returns : goal.returns
returns c =
    key_surveys c.args.cursor.now c.survey_tree.new.cursor c.survey_chains.new.cursor c.survey_raw.new.cursor c.survey_raw-2.new.cursor c.survey_raw-2.result c.in_ok-survey_tree.ensures c.in_ok-survey_chains.ensures c.in_ok-survey_raw.ensures c.survey_raw-2.ensures
