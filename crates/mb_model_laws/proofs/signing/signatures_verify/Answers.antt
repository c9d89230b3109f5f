use Rattle.mb_model_lemmas.proofs.SignatureLemmas as lemmas
use Rattle.mb_model_laws.proofs.signing.signatures_verify.Goals as goal

pub returns : goal.returns
returns c = lemmas.signature_verifies
