use Rattle.mb_model_examples.proofs.LayerProofs as examples
use Rattle.mb_model_examples.proofs.events.layer_examples.Goals as goal

pub returns : goal.returns
returns c = record { put = examples.puts; get = examples.gets; sign = examples.signs; closed = examples.closed }
