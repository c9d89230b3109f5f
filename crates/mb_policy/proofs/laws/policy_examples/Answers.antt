use Rattle.mb_policy.proofs.ExampleProofs.{policy_examples}
use Rattle.mb_policy.proofs.laws.policy_examples.Goals as goal

pub returns : goal.returns
returns c = policy_examples
