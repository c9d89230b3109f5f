use Rattle.mb_model_histories.proofs.ReadLemmas as lemmas
use Rattle.mb_model_histories.proofs.owners.values_are_admitted.Goals as goal

pub returns : goal.returns
returns c = record { admitted = lemmas.values_are_admitted; invalid = lemmas.invalid_states_read_more }
