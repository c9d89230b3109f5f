use Rattle.mb_model_lemmas.proofs.RegionLemmas as lemmas
use Rattle.mb_model_laws.proofs.laws.regions_stay_kept_rightly.Goals as goal

pub returns : goal.returns
returns c = record {
  change = lemmas.kept_over_change;
  new_key = lemmas.kept_over_new_key;
  other = lemmas.kept_over_other;
  now = lemmas.now_is_admitted;
}
