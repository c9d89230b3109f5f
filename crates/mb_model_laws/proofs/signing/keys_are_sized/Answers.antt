use Rattle.mb_model_lemmas.proofs.SignatureLemmas as lemmas
use Rattle.mb_model_laws.proofs.signing.keys_are_sized.Goals as goal

pub returns : goal.returns
returns c = record { born = lemmas.born_key-sized; officer = lemmas.officer_key-sized; public = lemmas.public_sized }
