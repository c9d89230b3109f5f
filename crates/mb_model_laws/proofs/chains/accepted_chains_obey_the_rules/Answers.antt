use Rattle.mb_model_lemmas.proofs.ChainLemmas as lemmas
use Rattle.mb_model_laws.proofs.chains.accepted_chains_obey_the_rules.Goals as goal

pub returns : goal.returns
returns c = record { ruled = lemmas.accepted_is_ruled; follows = lemmas.accepted_follows }
