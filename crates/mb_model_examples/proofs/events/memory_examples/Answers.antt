use Rattle.mb_model_examples.proofs.StepProofs as examples
use Rattle.mb_model_examples.proofs.events.memory_examples.Goals as goal

pub returns : goal.returns
returns c = examples.memory
