use Rattle.mb_model_examples.proofs.StepProofs as examples
use Rattle.mb_model_examples.proofs.events.phase_examples.Goals as goal

pub returns : goal.returns
returns c = record {
  boot = examples.boots;
  always = examples.always;
  sleeping = examples.sleeping;
  awake = examples.awake_ones;
  go = examples.goes;
}
