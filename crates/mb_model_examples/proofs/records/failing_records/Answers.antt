use Rattle.mb_model_examples.proofs.RecordProofs as examples
use Rattle.mb_model_examples.proofs.records.failing_records.Goals as goal

pub returns : goal.returns
returns c = examples.failings
