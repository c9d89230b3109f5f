use Rattle.mb_model_histories.proofs.RepairLemmas as lemmas
use Rattle.mb_model_histories.proofs.repair.owners_beneath_can_always_act.Goals as goal

pub returns : goal.returns
returns c = record {
  load = lemmas.layer_one_can_be_loaded;
  recover = lemmas.layers_can_be_recovered;
  give = lemmas.layers_can_be_given;
  room = lemmas.one_entry_is_not_enough;
  alone = lemmas.only_the_owner_beneath_recovers;
}
