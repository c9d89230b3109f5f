use Rattle.mb_model_runs.proofs.BirthLemmas as lemmas
use Rattle.mb_model_runs.proofs.chains.device_chains_are_accepted.Goals as goal

pub returns : goal.returns
returns c = record { good = lemmas.log_is_good; accepted = lemmas.born_key_accepted; whole = lemmas.chain_is_of }
