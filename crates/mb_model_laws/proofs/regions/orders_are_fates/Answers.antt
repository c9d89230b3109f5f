use Rattle.mb_model_lemmas.proofs.FatedStates as lemmas
use Rattle.mb_model_laws.proofs.regions.orders_are_fates.Goals as goal

pub returns : goal.returns
returns c = record {
  changed = lemmas.changed_is_fated;
  keyed = lemmas.keyed_is_fated;
}
