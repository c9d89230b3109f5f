use Rattle.mb_model_examples.proofs.WorkloadExampleProofs as examples
use Rattle.mb_model_examples.proofs.texts.workload_examples.Goals as goal

pub returns : goal.returns
returns c = examples.workload
