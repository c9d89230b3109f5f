use Rattle.mb_model_lemmas.proofs.AliveLemmas as lemmas
use Rattle.mb_model_laws.proofs.alive.alive_keys_follow_the_log.Goals as goal

pub returns : goal.returns
returns c = record { first = lemmas.alive_keys-nil; more = lemmas.alive_keys-push }
