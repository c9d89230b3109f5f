use Rattle.mb_model_examples.proofs.SignedOrderProofs as examples
use Rattle.mb_model_examples.proofs.orders.verified_orders.Goals as goal

pub returns : goal.returns
returns c = examples.verified
