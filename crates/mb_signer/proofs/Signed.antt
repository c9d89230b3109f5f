-- From the pieces that were written to the signature.
use Rattle.std.proofs.Common.{◌≡◌, ℕ, ◌+◌, List, [], ◌++◌, length, take, refl, ap, ◌∙◌}
use Rattle.std.specs.Int.{w32, to_be_bytes}
use Rattle.mb_model.specs.declared.key.KeySeed.{KeySeed}
use Rattle.mb_model.specs.declared.key.Chains.TheVariants.{W4}
use Rattle.mb_model.specs.signatures.Winternitz.{digits_of, message_hash}
use Rattle.mb_model.specs.signatures.Signing.{randomizer_of, signed_values, signed_digits, path_from, signature_of}
use Rattle.mb_bytes.proofs.InPlace.{joined}

-- the pieces of a signature in a row
pub record IsPieced (first second third fourth fifth last whole : List ℕ) : Type 0 where
  pub old : List ℕ
  pub one : List ℕ
  pub two : List ℕ
  pub three : List ℕ
  pub four : List ℕ
  pub five : List ℕ
  pub first_put : take (0 + length first) one ≡ take 0 old ++ first
  pub first_long : 0 + length first ≡ 4
  pub second_put : take (4 + length second) two ≡ take 4 one ++ second
  pub second_long : 4 + length second ≡ 8
  pub third_put : take (8 + length third) three ≡ take 8 two ++ third
  pub third_long : 8 + length third ≡ 40
  pub fourth_put : take 2184 four ≡ take 40 three ++ fourth
  pub fifth_put : take (2184 + length fifth) five ≡ take 2184 four ++ fifth
  pub fifth_long : 2184 + length fifth ≡ 2188
  pub last_put : whole ≡ take 2188 five ++ last

pieced : (first second third fourth fifth last whole : List ℕ) → IsPieced first second third fourth fifth last whole →
    whole ≡ first ++ second ++ third ++ fourth ++ fifth ++ last
pieced first second third fourth fifth last whole p =
    let a : take 4 p.one ≡ first = joined p.old p.one [] first 0 4 p.first_put p.first_long refl in
    let b : take 8 p.two ≡ first ++ second = joined p.one p.two first second 4 8 p.second_put p.second_long a in
    let c : take 40 p.three ≡ first ++ second ++ third = joined p.two p.three (first ++ second) third 8 40 p.third_put p.third_long b in
    let d : take 2184 p.four ≡ first ++ second ++ third ++ fourth = p.fourth_put ∙ ap (λ (x : List ℕ). x ++ fourth) c in
    let e : take 2188 p.five ≡ first ++ second ++ third ++ fourth ++ fifth =
    joined p.four p.five (first ++ second ++ third ++ fourth) fifth 2184 2188 p.fifth_put p.fifth_long d in
    p.last_put ∙ ap (λ (x : List ℕ). x ++ last) e

pub signed_by : (key : KeySeed) (right q : ℕ) (text first second c hash digits fifth whole : List ℕ) → q ≡ right →
    first ≡ to_be_bytes w32 q → second ≡ to_be_bytes w32 3 → fifth ≡ to_be_bytes w32 5 → c ≡ randomizer_of key q →
    hash ≡ message_hash key.identifier q c text → digits ≡ digits_of W4 hash →
    IsPieced first second c (signed_values key q digits 67) fifth (path_from key (32 + q) 5) whole →
    whole ≡ signature_of key right text
unfolding signature_of signed_digits
signed_by key right q text first second c hash digits fifth whole e e1 e2 e5 ec eh ed p =
    pieced first second c (signed_values key q digits 67) fifth (path_from key (32 + q) 5) whole p
    ∙ rw (ed, eh, ec, e1, e2, e5, e) refl
