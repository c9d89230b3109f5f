use Rattle.mb_model_examples.proofs.TextCounterProofs as examples
use Rattle.mb_model_examples.proofs.counter_examples.birth_counter_examples.Goals as goal

pub returns : goal.returns
returns c = record { draws = examples.draws; workloads = examples.workloads; births = examples.births }
