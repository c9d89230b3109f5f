use Rattle.mb_model_examples.proofs.RuleExampleProofs as lemmas
use Rattle.mb_model_examples.proofs.rules.target_examples.Goals as goal

pub returns : goal.returns
returns c = lemmas.targets
