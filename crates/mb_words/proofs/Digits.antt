-- Numbers in decimal, digit by digit from the last.
use Rattle.std.proofs.Common.{◌≡◌, ℕ, ◌+◌, ◌*◌, ◌/◌, ◌%◌, ◌<◌, ◌≤◌, ◌^◌, inl, inr, List, [], ◌∷◌, ◌++◌, length, sym, ap, ◌∙◌, arith}
use Rattle.std.specs.Prelude.{Option, Some, None, SomeIff}
use Rattle.std.specs.Fmt.{decimal}
use Rattle.std.proofs.lemmas.Bool.{cases_lt}
use Rattle.std.proofs.lemmas.Fmt.{decimal_digit, decimal_step, decimal_nonempty, length-decimal-le, decimal_injective}
use Rattle.std.proofs.lemmas.List.{same_from_push}
use Rattle.mb_model.specs.chains.Lines.{IsNumber, number_limit}
use Rattle.mb_model_lemmas.proofs.WordLemmas.{limited_fits}
use Rattle.mb_words.specs.Words.{FindsSome}

-- what stands before the last digit of a number
pub data IsFront (n : ℕ) (front : List ℕ) : Type 0 where
  one : n < 10 → front ≡ [] → IsFront n front
  more : 10 ≤ n → front ≡ decimal (n / 10) → IsFront n front

pub decimal_last : (n : ℕ) (front : List ℕ) (last : ℕ) → n < 2 ^ 64 → front ++ last ∷ [] ≡ decimal n → (last ≡ 48 + n % 10) × IsFront n front
decimal_last n front last fits e =
    elim (cases_lt n 10) [
      | inl less ↦
          let parts = same_from_push front [] last (48 + n) (e ∙ decimal_digit n less) in
          let here = parts.1 in
          (omega arith, one less parts.0)
      | inr most ↦
          let parts = same_from_push front (decimal (n / 10)) last (48 + n % 10) (e ∙ decimal_step n most fits) in
          (parts.1, more most parts.0)
    ]

-- a word of more than ten bytes is no number
pub too_long : (word : List ℕ) (n : ℕ) → 10 < length word → IsNumber number_limit word n → ⊥
too_long word n long is =
    let less : n < 10 ^ 10 = omega (arith, is.1) in
    let short = length-decimal-le 10 n (omega arith) less (limited_fits n is.1) in
    omega (arith, short, ap length is.0)

pub empty_none : (word : List ℕ) (n : ℕ) → length word ≡ 0 → IsNumber number_limit word n → ⊥
empty_none word n none is = omega (arith, none, ap length is.0, decimal_nonempty n (limited_fits n is.1))

-- the last byte of a number is a digit
pub last_digit : (word front : List ℕ) (last n : ℕ) → word ≡ front ++ last ∷ [] → IsNumber number_limit word n → (48 ≤ last) × (last ≤ 57)
last_digit word front last n e is =
    let parts = decimal_last n front last (limited_fits n is.1) (sym e ∙ is.0) in
    let here = parts.0 in
    (omega arith, omega arith)

-- one digit alone
pub one_digit : (word front : List ℕ) (last digit : ℕ) → word ≡ front ++ last ∷ [] → front ≡ [] → last ≡ 48 + digit → digit < 10 → IsNumber number_limit word digit
one_digit word front last digit e none is small =
    let alone = ap (λ (x : List ℕ). x ++ last ∷ []) none in
    let byte = ap (λ (x : ℕ). x ∷ []) is in
    (e ∙ alone ∙ byte ∙ sym (decimal_digit digit small), omega arith)

-- a number with one digit more
joined : (tens digit : ℕ) → 0 < tens → digit < 10 → 10 * tens + digit < 2 ^ 64 → decimal (10 * tens + digit) ≡ decimal tens ++ (48 + digit) ∷ []
joined tens digit some small fits =
    let front : (10 * tens + digit) / 10 ≡ tens = omega arith in
    let last : (10 * tens + digit) % 10 ≡ digit = omega arith in
    decimal_step (10 * tens + digit) (omega arith) fits
    ∙ ap (λ (x : ℕ). decimal x ++ (48 + (10 * tens + digit) % 10) ∷ []) front
    ∙ ap (λ (x : ℕ). decimal tens ++ (48 + x) ∷ []) last

-- a number whose front is a number
front_same : (word front : List ℕ) (last tens digit n : ℕ) → word ≡ front ++ last ∷ [] → last ≡ 48 + digit → digit < 10 → 0 < length front
    → IsNumber number_limit front tens → IsNumber number_limit word n → (10 ≤ n) × (n ≡ 10 * tens + digit)
front_same word front last tens digit n e is small some front_is word_is =
    let parts = decimal_last n front last (limited_fits n word_is.1) (sym e ∙ word_is.0) in
    elim parts.1 [
      | one less none ↦ absurd (omega (arith, ap length none, some))
      | more least whole ↦
          let same = decimal_injective (n / 10) tens (omega (arith, limited_fits n word_is.1)) (limited_fits tens front_is.1) (sym whole ∙ front_is.0) in
          let here = parts.0 in
          (least, omega (arith, same, here, is))
    ]

pub added : (word front : List ℕ) (last tens digit : ℕ) (r : Option ℕ) → word ≡ front ++ last ∷ [] → last ≡ 48 + digit → digit < 10 → 0 < length front
    → IsNumber number_limit front tens → 0 < tens → SomeIff r (10 * tens + digit < 2 ^ 32) (10 * tens + digit) → FindsSome (IsNumber number_limit word) r
added word front last tens digit (Some x) e is small some front_is positive found =
    let byte = ap (λ (b : ℕ). front ++ b ∷ []) is in
    let whole = ap (λ (f : List ℕ). f ++ (48 + digit) ∷ []) front_is.0 in
    let fits = found.0 in
    let same = found.1 in
    (e ∙ byte ∙ whole ∙ sym (joined tens digit positive small (omega arith)) ∙ ap (λ (n : ℕ). decimal n) (sym same), omega arith)
added word front last tens digit None e is small some front_is positive found =
    λ n word_is.
    let same = (front_same word front last tens digit n e is small some front_is word_is).1 in
    found (omega (arith, same, word_is.1))

-- a number of two digits or more does not begin with a zero
pub leading_zero : (word front : List ℕ) (last tens digit n : ℕ) → word ≡ front ++ last ∷ [] → last ≡ 48 + digit → digit < 10 → 0 < length front
    → IsNumber number_limit front tens → tens ≡ 0 → IsNumber number_limit word n → ⊥
leading_zero word front last tens digit n e is small some front_is zero word_is =
    let same = front_same word front last tens digit n e is small some front_is word_is in
    omega (arith, same.0, same.1)

-- a word whose front is no number is none
pub front_none : (word front : List ℕ) (last n : ℕ) → word ≡ front ++ last ∷ [] → 0 < length front → ((m : ℕ) → IsNumber number_limit front m → ⊥)
    → IsNumber number_limit word n → ⊥
front_none word front last n e some none word_is =
    let parts = decimal_last n front last (limited_fits n word_is.1) (sym e ∙ word_is.0) in
    elim parts.1 [
      | one less empty ↦ omega (arith, ap length empty, some)
      | more least whole ↦ none (n / 10) (whole, omega (arith, word_is.1))
    ]
