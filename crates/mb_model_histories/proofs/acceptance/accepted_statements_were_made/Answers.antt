use Rattle.mb_model_histories.proofs.AcceptanceLemmas as lemmas
use Rattle.mb_model_histories.proofs.ElsewhereLemmas as elsewhere
use Rattle.mb_model_histories.proofs.acceptance.accepted_statements_were_made.Goals as goal

pub returns : goal.returns
returns c = record { made = lemmas.accepted_statements_were_made; elsewhere = elsewhere.statements_may_be_made_elsewhere }
