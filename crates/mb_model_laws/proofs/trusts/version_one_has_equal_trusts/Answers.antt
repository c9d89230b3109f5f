use Rattle.mb_model_laws.proofs.TrustLemmas as lemmas
use Rattle.mb_model_laws.proofs.trusts.version_one_has_equal_trusts.Goals as goal

pub returns : goal.returns
returns c = lemmas.version_one_equal
