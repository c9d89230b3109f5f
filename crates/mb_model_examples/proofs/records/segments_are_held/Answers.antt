use Rattle.mb_model_examples.proofs.SegmentProofs as proofs
use Rattle.mb_model_examples.proofs.records.segments_are_held.Goals as goal

pub returns-clause-held : goal.returns-clause-held
returns-clause-held c = proofs.examples

pub returns-clause-written : goal.returns-clause-written
returns-clause-written c = proofs.written
