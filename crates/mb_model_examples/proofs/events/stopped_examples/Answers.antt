use Rattle.mb_model_examples.proofs.LayerProofs as examples
use Rattle.mb_model_examples.proofs.events.stopped_examples.Goals as goal

pub returns : goal.returns
returns c = examples.stopped
