use Rattle.mb_model_laws.proofs.TrustLemmas as lemmas
use Rattle.mb_model_laws.proofs.trusts.versions_only_rise.Goals as goal

pub returns : goal.returns
returns c = lemmas.versions_rise
