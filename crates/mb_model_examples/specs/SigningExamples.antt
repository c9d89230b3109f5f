-- The digits and checksums of RFC 8554 on short bytes; the checker computes each line. Do the definitions count as the
-- standard does?
use Rattle.std.specs.Prelude.{◌≡◌, ℕ, List, [], ◌∷◌, replicate}
use Rattle.mb_model.specs.declared.key.Chains.TheVariants.{W1, W2, W4, W8}
use Rattle.mb_model.specs.signatures.Winternitz.{coef, checksum}

-- the bytes 0x1234
abbrev two_bytes : List ℕ
two_bytes = 0x12 ∷ 0x34 ∷ []

pub record DigitExamples : Type 0 where
  pub bit : coef two_bytes 7 1 ≡ 0
  pub first_digit : coef two_bytes 0 4 ≡ 1
  pub last_digit : coef two_bytes 3 4 ≡ 4

pub record ChecksumExamples : Type 0 where
  -- 64 digits of 0 fall short by 15 each
  pub zeros : checksum W4 (replicate 32 0) ≡ 0x3C00
  -- the greatest digits fall short by nothing
  pub one_bit : checksum W1 (replicate 32 0xFF) ≡ 0
  pub two_bits : checksum W2 (replicate 32 0xFF) ≡ 0
  pub four_bits : checksum W4 (replicate 32 0xFF) ≡ 0
  pub eight_bits : checksum W8 (replicate 32 0xFF) ≡ 0
