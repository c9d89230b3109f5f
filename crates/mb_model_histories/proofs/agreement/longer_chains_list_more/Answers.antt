use Rattle.mb_model_histories.proofs.AgreementLemmas as lemmas
use Rattle.mb_model_histories.proofs.agreement.longer_chains_list_more.Goals as goal

pub returns : goal.returns
returns c = record { lives = lemmas.lives_begin_with; unruled = lemmas.unruled_lives_may_not; chains = lemmas.shortened_chains_list_less }
