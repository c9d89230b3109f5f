use Rattle.mb_model_histories.proofs.OwnerLemmas as lemmas
use Rattle.mb_model_histories.proofs.RepairLemmas as repair
use Rattle.mb_model_histories.proofs.owners.owners_stay.Goals as goal

pub returns : goal.returns
returns c = record { stay = lemmas.owners_stay; first = lemmas.owner_of_layer_one_stays; up = repair.owners_can_give_up }
