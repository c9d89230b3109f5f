use Rattle.mb_policy.proofs.ExampleProofs.{policy_counter_examples}
use Rattle.mb_policy.proofs.laws.policy_counter_examples.Goals as goal

pub returns : goal.returns
returns c = policy_counter_examples
