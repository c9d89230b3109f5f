use Rattle.mb_model_histories.proofs.SightLemmas as lemmas
use Rattle.mb_model_histories.proofs.sight.what_is_beneath_is_out_of_sight.Goals as goal

pub returns : goal.returns
returns c = record { beneath = lemmas.what_is_beneath; runs = lemmas.out_of_sight_in_runs; seen = lemmas.layer_two_sees }
