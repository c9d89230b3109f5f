use Rattle.mb_model_lemmas.proofs.ValidRegions as lemmas
use Rattle.mb_model_laws.proofs.regions.regions_stay_valid.Goals as goal

pub returns : goal.returns
returns c = record {
  change = lemmas.valid_over_change;
  new_key = lemmas.valid_over_new_key;
  other_key = lemmas.valid_over_other_key;
  succession = lemmas.valid_over_succession;
  other = lemmas.valid_over_other;
}
