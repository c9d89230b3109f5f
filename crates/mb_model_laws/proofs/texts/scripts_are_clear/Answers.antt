use Rattle.mb_model_laws.proofs.ClearTexts as proof
use Rattle.mb_model_laws.proofs.texts.scripts_are_clear.Goals as goal

pub returns : goal.returns
returns c = proof.scripts
