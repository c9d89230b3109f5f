use Rattle.mb_model_examples.proofs.HeaderProofs.{failings}
use Rattle.mb_model_examples.proofs.records.failing_headers.Goals as goal

pub returns : goal.returns
returns c = failings
