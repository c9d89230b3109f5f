use Rattle.mb_model_examples.proofs.RuleExampleProofs as lemmas
use Rattle.mb_model_examples.proofs.rules.admission_examples.Goals as goal

pub returns : goal.returns
returns c = lemmas.admission
