use Rattle.mb_fleet.proofs.ExampleProofs.{question_examples}
use Rattle.mb_fleet.proofs.laws.question_examples.Goals as goal

pub returns : goal.returns
returns c = question_examples
