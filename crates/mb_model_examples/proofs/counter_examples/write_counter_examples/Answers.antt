use Rattle.mb_model_examples.proofs.SegmentProofs as proofs
use Rattle.mb_model_examples.proofs.counter_examples.write_counter_examples.Goals as goal

pub returns : goal.returns
returns c = record {
  agreement = proofs.agreement;
  keeping = proofs.keeping;
  writes = proofs.writes;
}
