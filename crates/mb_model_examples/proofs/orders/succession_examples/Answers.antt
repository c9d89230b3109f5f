use Rattle.mb_model_examples.proofs.OrderProofs as examples
use Rattle.mb_model_examples.proofs.orders.succession_examples.Goals as goal

pub returns : goal.returns
returns c = examples.successions
