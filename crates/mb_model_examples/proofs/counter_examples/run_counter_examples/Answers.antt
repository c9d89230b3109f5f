use Rattle.mb_model_examples.proofs.RunCounterProofs as examples
use Rattle.mb_model_examples.proofs.counter_examples.run_counter_examples.Goals as goal

pub returns : goal.returns
returns c = record {
  orders = examples.orders;
  refusals = examples.refusals;
  steps = examples.steps;
  runs = examples.runs;
  served = examples.served;
}
