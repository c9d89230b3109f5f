use Rattle.mb_model_laws.proofs.ClearTexts as proof
use Rattle.mb_model_laws.proofs.texts.drafts_are_clear.Goals as goal

pub returns : goal.returns
returns c = proof.drafts
