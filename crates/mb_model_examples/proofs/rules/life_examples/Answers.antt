use Rattle.mb_model_examples.proofs.RuleExampleProofs as examples
use Rattle.mb_model_examples.proofs.LifeProof as proof
use Rattle.mb_model_examples.proofs.rules.life_examples.Goals as goal

pub returns : goal.returns
returns c = record { log = examples.log; ruled = proof.ruled; lives = examples.lives }
