use Rattle.mb_model_lemmas.proofs.FateLemmas as lemmas
use Rattle.mb_model_laws.proofs.regions.region_keys_have_numbers.Goals as goal

pub returns : goal.returns
returns c = record {
  increase = lemmas.keys_increase;
  high = lemmas.high_is_not_there;
  found = lemmas.found_by_number;
  used = lemmas.used_by_number;
}
