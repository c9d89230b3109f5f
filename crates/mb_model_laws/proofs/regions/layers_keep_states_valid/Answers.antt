use Rattle.mb_model_lemmas.proofs.ValidStates as lemmas
use Rattle.mb_model_laws.proofs.regions.layers_keep_states_valid.Goals as goal

pub returns : goal.returns
returns c = record {
  put = lemmas.put_keeps;
  get = lemmas.get_keeps;
  drop = lemmas.drop_keeps;
  sign = lemmas.sign_keeps;
}
