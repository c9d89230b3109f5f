use Rattle.mb_model_histories.proofs.KeyLemmas as lemmas
use Rattle.mb_model_histories.proofs.keys.keys_differ.Goals as goal

pub returns : goal.returns
returns c = record {
  device = lemmas.device_keys_differ;
  officer = lemmas.officers_keys_differ;
  apart = lemmas.keys_of_devices_are_no_officers;
  noise = lemmas.one_noise_makes_one_key;
  derived = lemmas.keys_are_derived;
  regions = lemmas.keys_of_one_device_differ;
}
