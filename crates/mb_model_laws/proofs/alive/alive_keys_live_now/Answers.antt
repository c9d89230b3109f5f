use Rattle.mb_model_lemmas.proofs.PresentLemmas as lemmas
use Rattle.mb_model_laws.proofs.alive.alive_keys_live_now.Goals as goal

pub returns : goal.returns
returns c = lemmas.alive_lives_now
