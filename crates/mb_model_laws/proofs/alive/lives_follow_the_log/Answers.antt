use Rattle.mb_model_lemmas.proofs.AliveLemmas as lemmas
use Rattle.mb_model_laws.proofs.alive.lives_follow_the_log.Goals as goal

pub returns : goal.returns
returns c = record { none = lemmas.unmade_has_no_lives; first = lemmas.lives_of_new_key; more = lemmas.lives_of-push }
