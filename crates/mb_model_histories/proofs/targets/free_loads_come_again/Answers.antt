use Rattle.mb_model_histories.proofs.RepairLemmas as repair
use Rattle.mb_model_histories.proofs.TargetLemmas as lemmas
use Rattle.mb_model_histories.proofs.targets.free_loads_come_again.Goals as goal

pub returns : goal.returns
returns c = record { plain = repair.plain_loads_are_free; again = lemmas.free_loads_pass_again; fill = lemmas.one_free_load_fills_the_log }
