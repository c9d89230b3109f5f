use Rattle.mb_policy.proofs.ExampleProofs.{judgement_counter_examples}
use Rattle.mb_policy.proofs.laws.judgement_counter_examples.Goals as goal

pub returns : goal.returns
returns c = judgement_counter_examples
