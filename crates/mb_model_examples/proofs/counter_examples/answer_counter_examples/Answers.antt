use Rattle.mb_model_examples.proofs.MemoryCounterProofs as examples
use Rattle.mb_model_examples.proofs.counter_examples.answer_counter_examples.Goals as goal

pub returns : goal.returns
returns c = record { wiping = examples.wiping; answers = examples.answers }
