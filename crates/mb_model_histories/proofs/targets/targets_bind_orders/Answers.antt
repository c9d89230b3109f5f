use Rattle.mb_model_histories.proofs.RepairLemmas as repair
use Rattle.mb_model_histories.proofs.TargetLemmas as lemmas
use Rattle.mb_model_histories.proofs.targets.targets_bind_orders.Goals as goal

pub returns : goal.returns
returns c = record {
  once = lemmas.length_targets_count_once;
  again = lemmas.bound_orders_pass_once;
  serial = lemmas.serial_targets_name_the_device;
  named = repair.named_loads_pass;
}
