use Rattle.mb_model_examples.proofs.RunCounterProofs as examples
use Rattle.mb_model_examples.proofs.counter_examples.log_counter_examples.Goals as goal

pub returns : goal.returns
returns c = record {
  logs = examples.logs;
  charge = examples.charges;
  indices = examples.indices;
  alive = examples.lives;
  regions = examples.regions;
}
