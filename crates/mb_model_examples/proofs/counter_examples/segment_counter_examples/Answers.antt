use Rattle.mb_model_examples.proofs.SegmentProofs as proofs
use Rattle.mb_model_examples.proofs.counter_examples.segment_counter_examples.Goals as goal

pub returns : goal.returns
returns c = record {
  headers = proofs.headers;
  codes = proofs.code;
  log = proofs.log;
  texts = proofs.texts;
  holding = proofs.holding;
}
