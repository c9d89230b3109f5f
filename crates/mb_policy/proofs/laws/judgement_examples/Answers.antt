use Rattle.mb_policy.proofs.ExampleProofs.{judgement_examples}
use Rattle.mb_policy.proofs.laws.judgement_examples.Goals as goal

pub returns : goal.returns
returns c = judgement_examples
