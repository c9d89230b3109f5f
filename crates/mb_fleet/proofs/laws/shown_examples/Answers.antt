use Rattle.mb_fleet.proofs.ExampleProofs.{shown_examples}
use Rattle.mb_fleet.proofs.laws.shown_examples.Goals as goal

pub returns : goal.returns
returns c = shown_examples
