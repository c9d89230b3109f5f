use Rattle.mb_model_lemmas.proofs.SignatureLemmas as lemmas
use Rattle.mb_model_laws.proofs.signing.signatures_bear_their_index.Goals as goal

pub returns : goal.returns
returns c = record { index = lemmas.signature_leaf_number; sized = lemmas.length-signature_of }
