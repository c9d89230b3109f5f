use Rattle.mb_model_examples.proofs.MemoryCounterProofs as examples
use Rattle.mb_model_examples.proofs.counter_examples.memory_counter_examples.Goals as goal

pub returns : goal.returns
returns c = record {
  areas = examples.areas;
  meaning = examples.meanings;
  images = examples.images;
  clean = examples.clean;
}
