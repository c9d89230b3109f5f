use Rattle.mb_model_lemmas.proofs.OrderLemmas as lemmas
use Rattle.mb_model_laws.proofs.refusals.orders_fail_one_check.Goals as goal

pub returns : goal.returns
returns c = record { failure = lemmas.one_failure; passing = lemmas.passes_fail_nothing; either = lemmas.passes_or_fails; step = lemmas.one_order_step }
