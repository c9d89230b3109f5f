use Rattle.mb_model_histories.proofs.TargetLemmas as lemmas
use Rattle.mb_model_histories.proofs.targets.logs_have_room.Goals as goal

pub returns : goal.returns
returns c = record { few = lemmas.orders_are_few; full = lemmas.full_logs_obey_nothing }
