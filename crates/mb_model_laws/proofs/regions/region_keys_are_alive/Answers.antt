use Rattle.mb_model_lemmas.proofs.FatedStates as lemmas
use Rattle.mb_model_laws.proofs.regions.region_keys_are_alive.Goals as goal

pub returns : goal.returns
returns c = record {
  standing = lemmas.region_key_lives;
  living = lemmas.living_key_stands;
}
