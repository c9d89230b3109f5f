use Rattle.mb_model_histories.proofs.ReplayLemmas as lemmas
use Rattle.mb_model_histories.proofs.histories.replayed_images_sign_again.Goals as goal

pub returns : goal.returns
returns c = lemmas.replayed_images_sign_again
