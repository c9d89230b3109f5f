use Rattle.mb_model_histories.proofs.OwnerLemmas as lemmas
use Rattle.mb_model_histories.proofs.RegionEventLemmas as regions
use Rattle.mb_model_histories.proofs.owners.only_owners_decide.Goals as goal

pub returns : goal.returns
returns c = record {
  only = lemmas.only_orders_change;
  logged = lemmas.obeyed_orders_are_logged;
  region = regions.regions_change_by_their_layer;
  done = lemmas.done_is_obeyed;
  layer = lemmas.orders_change_their_layer;
  code = lemmas.orders_leave_other_code;
}
