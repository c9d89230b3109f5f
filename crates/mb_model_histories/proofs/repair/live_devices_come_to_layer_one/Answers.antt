use Rattle.mb_model_histories.proofs.RepairLemmas as lemmas
use Rattle.mb_model_histories.proofs.repair.live_devices_come_to_layer_one.Goals as goal

pub returns : goal.returns
returns c = record { comes = lemmas.comes_to_layer_one; boots = lemmas.boots_can_be_tried_again; dead = lemmas.dead_devices_never_boot }
