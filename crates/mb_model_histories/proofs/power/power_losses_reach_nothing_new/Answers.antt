use Rattle.mb_model_histories.proofs.PowerLemmas as lemmas
use Rattle.mb_model_histories.proofs.power.power_losses_reach_nothing_new.Goals as goal

pub returns : goal.returns
returns c = record { smooth = lemmas.power_losses_reach_nothing_new; armed = lemmas.armed_worlds_are_not_reached }
