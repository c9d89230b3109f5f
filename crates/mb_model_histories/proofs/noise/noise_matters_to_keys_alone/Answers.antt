use Rattle.mb_model_histories.proofs.NoiseLemmas as lemmas
use Rattle.mb_model_histories.proofs.OldKeyLemmas as old_keys
use Rattle.mb_model_histories.proofs.noise.noise_matters_to_keys_alone.Goals as goal

pub returns : goal.returns
returns c = record {
  runs = lemmas.noise_matters_to_keys_alone;
  answers = lemmas.draws_change_signatures_alone;
  orders = lemmas.draws_matter_to_new_keys_alone;
  loads = lemmas.draws_make_the_device_key;
  old = old_keys.old_keys_stay;
}
