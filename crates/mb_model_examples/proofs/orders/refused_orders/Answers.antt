use Rattle.mb_model_examples.proofs.OrderProofs as examples
use Rattle.mb_model_examples.proofs.orders.refused_orders.Goals as goal

pub returns : goal.returns
returns c = record { first = examples.refusals; later = examples.later }
