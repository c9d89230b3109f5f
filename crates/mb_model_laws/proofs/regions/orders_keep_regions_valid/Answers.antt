use Rattle.mb_model_lemmas.proofs.ValidStates as lemmas
use Rattle.mb_model_laws.proofs.regions.orders_keep_regions_valid.Goals as goal

pub returns : goal.returns
returns c = record {
  succession = lemmas.succeeded_keeps;
  change = lemmas.changed_keeps;
  new_key = lemmas.keyed_keeps;
}
