use Rattle.mb_model_lemmas.proofs.AliveLemmas as lemmas
use Rattle.mb_model_laws.proofs.alive.alive_keys_are_alive.Goals as goal

pub returns : goal.returns
returns c = record { listed = lemmas.alive_is_listed; living = lemmas.listed_is_alive }
