use Rattle.mb_model_memory.proofs.RestLemmas as lemmas
use Rattle.mb_model_memory.proofs.commits.orders_begin_and_end_with_a_root.Goals as goal

pub returns : goal.returns
returns c = record { begins = lemmas.order_committed; ends = lemmas.work_finished }
