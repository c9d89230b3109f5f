-- A maker's signatures verify.
use Rattle.std.proofs.Common.{◌≡◌, ℕ, zero, suc, ◌+◌, ◌-◌, ◌/◌, ◌^◌, ◌<◌, List, ◌++◌, refl, sym, ap, subst, ◌∙◌, append_assoc, arith}
use Rattle.std.proofs.Math.Nat.{div-eq_of_lt}
use Rattle.std.specs.Int.{w32, to_be_bytes}
use Rattle.mb_model.specs.declared.key.KeySeed.{KeySeed}
use Rattle.mb_model.specs.signatures.Merkle.{Verifies}
use Rattle.mb_model.specs.signatures.Signing.{public_of, signature_of}
use Rattle.mb_model_lemmas.proofs.SignatureLemmas.{signature_verifies}
use Rattle.mb_hss.specs.declared.maker.Maker.{Maker}
use Rattle.mb_hss.specs.HssVerification.{VerifiesUnder, HssVerifies}
use Rattle.mb_hss.specs.MakerKeys.{IsMaker, level_key, index_at, key_at, public_at, maker_key}
use Rattle.mb_hss.specs.MakerSignatures.{text_at, signature_at, upper_levels, maker_signature, Signs}
use Rattle.mb_hss.proofs.MakerLemmas.{level_sized, text_above, text_last, upper_none, upper_next}

-- the signatures from a level on, with n levels above the last
lower_levels : Maker → ℕ → List ℕ → ℕ → ℕ → List ℕ
lower_levels maker number text level zero = signature_at maker number text level
lower_levels maker number text level (suc n) =
    signature_at maker number text level ++ public_at maker number (level + 1) ++ lower_levels maker number text (level + 1) n

-- the levels above and those from there on are all
upper_lower : (maker : Maker) (number : ℕ) (text : List ℕ) (n level : ℕ) →
    upper_levels maker number text level ++ lower_levels maker number text level n
    ≡ upper_levels maker number text (level + n) ++ signature_at maker number text (level + n)
unfolding lower_levels
upper_lower maker number text zero level =
    let e : level ≡ level + 0 = omega arith in
    ap (λ (m : ℕ). upper_levels maker number text m ++ signature_at maker number text m) e
upper_lower maker number text (suc n) level =
    let upper : List ℕ = upper_levels maker number text level in
    let own : List ℕ = signature_at maker number text level in
    let key : List ℕ = public_at maker number (level + 1) in
    let rest : List ℕ = lower_levels maker number text (level + 1) n in
    let e : level + 1 + n ≡ level + suc n = omega arith in
    sym (append_assoc upper (own ++ key) rest) ∙ ap (λ (x : List ℕ). x ++ rest) (sym (append_assoc upper own key) ∙ sym (upper_next maker number text level))
    ∙ upper_lower maker number text n (level + 1)
    ∙ ap (λ (m : ℕ). upper_levels maker number text m ++ signature_at maker number text m) e

-- each level's signature verifies
level_verifies : (maker : Maker) (number level : ℕ) (text signed : List ℕ) → text_at maker number text level ≡ signed →
    Verifies (public_of (key_at maker number level)) signed (signature_at maker number text level)
level_verifies maker number level text signed is =
    let key : KeySeed = key_at maker number level in
    let q : ℕ = index_at maker.levels number level in
    let below : q < 32 = omega arith in
    let P : List ℕ → Type 0 = λ x. Verifies (public_of key) signed (signature_of key q x) in
    subst P (sym is) (signature_verifies key q signed below)

levels_verify : (maker : Maker) (number : ℕ) (text : List ℕ) (n level : ℕ) → level + n + 1 ≡ maker.levels →
    VerifiesUnder (public_of (key_at maker number level)) n text (lower_levels maker number text level n)
unfolding VerifiesUnder lower_levels
levels_verify maker number text zero level last =
    level_verifies maker number level text text (text_last maker number text level (omega arith))
levels_verify maker number text (suc n) level last = (
  signature_at maker number text level,
  lower_levels maker number text (level + 1) n,
  public_of (key_at maker number (level + 1)),
  record {
    parts = refl;
    sized = level_sized maker number (level + 1);
    signed = level_verifies maker number level text (public_at maker number (level + 1)) (text_above maker number text level (omega arith));
  },
  levels_verify maker number text n (level + 1) (omega arith),
)

-- a number below 32^levels has the prefix 0 at level 0
first_key : (maker : Maker) (number : ℕ) → number < 32 ^ maker.levels → public_of (key_at maker number 0) ≡ (maker_key maker).top
unfolding maker_key
first_key maker number left =
    let all : maker.levels - 0 ≡ maker.levels = omega arith in
    ap (λ (x : ℕ). public_of (level_key maker.seed 0 (number / 32 ^ x))) all
    ∙ ap (λ (x : ℕ). public_of (level_key maker.seed 0 x)) (div-eq_of_lt left)

pub makers_verify : (maker after : Maker) (text sig : List ℕ) → IsMaker maker → Signs maker text sig after → HssVerifies (maker_key maker) text sig
unfolding maker_signature maker_key
makers_verify maker after text sig is signs =
    let n : ℕ = maker.levels - 1 in
    let number : ℕ = maker.next in
    let count : List ℕ = to_be_bytes w32 n in
    let all : 0 + n ≡ n = omega arith in
    let lower : lower_levels maker number text 0 n ≡ upper_levels maker number text n ++ signature_at maker number text n =
    ap (λ (x : List ℕ). x ++ lower_levels maker number text 0 n) (sym (upper_none maker number text)) ∙ upper_lower maker number text n 0
    ∙ ap (λ (m : ℕ). upper_levels maker number text m ++ signature_at maker number text m) all in
    record {
      rest = lower_levels maker number text 0 n;
      counted =
          signs.signature ∙ append_assoc count (upper_levels maker number text n) (signature_at maker number text n)
          ∙ ap (λ (x : List ℕ). count ++ x) (sym lower);
      under =
          subst (λ key. VerifiesUnder key n text (lower_levels maker number text 0 n)) (first_key maker number signs.left)
          (levels_verify maker number text n 0 (omega (arith, is.least)));
    }
