use Rattle.mb_model_lemmas.proofs.ValidStates as lemmas
use Rattle.mb_model_laws.proofs.regions.valid_states_have_valid_regions.Goals as goal

pub returns : goal.returns
returns c = record {
  log = lemmas.valid_is_ruled;
  region = lemmas.region_is_valid;
  another = lemmas.valid_with_region;
}
