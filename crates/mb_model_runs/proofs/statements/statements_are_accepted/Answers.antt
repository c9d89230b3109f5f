use Rattle.mb_model_runs.proofs.StatementLemmas as lemmas
use Rattle.mb_model_runs.proofs.statements.statements_are_accepted.Goals as goal

pub returns : goal.returns
returns c = record { stated = lemmas.statement_accepted; answered = lemmas.answer_stays_accepted; foreign = lemmas.foreign_not_accepted }
