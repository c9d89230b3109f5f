use Rattle.mb_fleet.proofs.ExampleProofs.{shown_counter_examples}
use Rattle.mb_fleet.proofs.laws.shown_counter_examples.Goals as goal

pub returns : goal.returns
returns c = shown_counter_examples
