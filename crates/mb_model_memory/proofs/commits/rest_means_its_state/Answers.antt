use Rattle.mb_model_memory.proofs.RestLemmas as lemmas
use Rattle.mb_model_memory.proofs.commits.rest_means_its_state.Goals as goal

pub returns : goal.returns
returns c = record { means = lemmas.rest_means; stands = lemmas.rest_stands; only = lemmas.nothing_pending; clean = lemmas.clean_and_stands }
