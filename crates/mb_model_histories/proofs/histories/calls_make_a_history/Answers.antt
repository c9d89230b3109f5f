use Rattle.mb_model_histories.proofs.TurnLemmas as lemmas
use Rattle.mb_model_histories.proofs.histories.calls_make_a_history.Goals as goal

pub returns : goal.returns
returns c = record { read = lemmas.served_images_are_read; history = lemmas.turns_are_histories }
