-- The examples of digits and checksums, computed.
use Rattle.std.proofs.Common.{refl}
use Rattle.mb_model.specs.signatures.Winternitz.{coef, shortfall, checksum}
use Rattle.mb_model_examples.specs.SigningExamples.{DigitExamples, ChecksumExamples}

pub digits : DigitExamples
unfolding coef
digits = record { bit = refl; first_digit = refl; last_digit = refl }

pub checksums : ChecksumExamples
unfolding coef shortfall checksum
checksums = record { zeros = refl; one_bit = refl; two_bits = refl; four_bits = refl; eight_bits = refl }
