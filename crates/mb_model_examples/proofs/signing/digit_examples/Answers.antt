use Rattle.mb_model_examples.proofs.DigitProofs as lemmas
use Rattle.mb_model_examples.proofs.signing.digit_examples.Goals as goal

pub returns-clause-digits : goal.returns-clause-digits
returns-clause-digits c = lemmas.digits

pub returns-clause-checksums : goal.returns-clause-checksums
returns-clause-checksums c = lemmas.checksums
