use Rattle.mb_model_examples.proofs.OrderProofs as examples
use Rattle.mb_model_examples.proofs.orders.obeyed_orders.Goals as goal

pub returns : goal.returns
returns c = record { answered = examples.obeys; left = examples.leavings }
