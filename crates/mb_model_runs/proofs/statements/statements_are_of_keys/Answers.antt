use Rattle.mb_model_runs.proofs.StatementLemmas as lemmas
use Rattle.mb_model_runs.proofs.statements.statements_are_of_keys.Goals as goal

pub returns : goal.returns
returns c = lemmas.statement_of_key
