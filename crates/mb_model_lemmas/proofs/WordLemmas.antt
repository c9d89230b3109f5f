-- Lemmas on the words of a line: no number and no name has a space in it, and each word is one value.
use Rattle.std.proofs.Common.{◌≡◌, ℕ, ◌+◌, ◌%◌, ◌<◌, ◌≤◌, ◌^◌, inl, inr, List, [], ◌∷◌, ◌++◌, length, refl, sym, ap, subst, ◌∙◌, arith, length-append}
use Rattle.std.specs.Prelude.{◌⊎◌, All, codes, IsTrue, Ok}
use Rattle.std.specs.Fmt.{decimal}
use Rattle.std.proofs.lemmas.Fmt.{decimal_by_steps, decimal_injective}
use Rattle.std.proofs.lemmas.List.Elements.{All-nil, All-cons, All-head, All-append, All-weaker}
use Rattle.hex.specs.Hex.{encode_lower, decode_of}
use Rattle.hex.proofs.HexLemmas.{decode_of-ok, decode_of-same, decode_of-encode_lower, length-encode_with}
use Rattle.mb_format.specs.Format.{IsBytes}
use Rattle.mb_model.specs.outside.Texts.{IsHex}
use Rattle.mb_model.specs.owners.Layers.{is_upper}
use Rattle.mb_model.specs.chains.Lines.{number_limit, hex_word}
use Rattle.mb_model.specs.chains.Script.{IsName}
use Rattle.mb_model_lemmas.proofs.LineLemmas.{Without, isnt, first_same}

-- ---- numbers

abbrev is_digit : ℕ → Type 0
is_digit byte = 48 ≤ byte

decimal_digits : (n : ℕ) → n < 2 ^ 64 → All is_digit (decimal n)
decimal_digits n fits =
    decimal_by_steps (λ m ds. All is_digit ds)
    (λ m less. All-cons is_digit (48 + m) [] (omega arith) (All-nil is_digit))
    (λ m ds least more. All-append is_digit ds ((48 + m % 10) ∷ []) more (All-cons is_digit (48 + m % 10) [] (omega arith) (All-nil is_digit)))
    n fits

-- a number has no space
pub decimal_spaceless : (n : ℕ) → n < 2 ^ 64 → Without 32 (decimal n)
decimal_spaceless n fits = All-weaker is_digit (isnt 32) (λ byte least is. omega (arith, least, is)) (decimal n) (decimal_digits n fits)

-- a number has a digit
decimal_some : (n : ℕ) → n < 2 ^ 64 → 0 < length (decimal n)
decimal_some n fits =
    decimal_by_steps (λ m ds. 0 < length ds) (λ m less. omega arith)
    (λ m ds least more. omega (arith, length-append ds ((48 + m % 10) ∷ []))) n fits

-- a number begins with a digit, and no dash
pub no_dash : (n : ℕ) → n < 2 ^ 64 → (xs ys : List ℕ) → 45 ∷ xs ≡ decimal n ++ ys → ⊥
no_dash n small xs ys e = by (decimal n) (decimal_digits n small) (decimal_some n small) e
  where
    by : (word : List ℕ) → All is_digit word → 0 < length word → 45 ∷ xs ≡ word ++ ys → ⊥
    by [] digits some e = omega (arith, some)
    by (d ∷ word) digits some e =
        let first : 45 ≡ d = cc in
        let digit = All-head is_digit d word digits in
        omega (arith, first, digit)

-- numbers before spaces are one number
pub number_front : (m n : ℕ) (xs ys : List ℕ) → m < 2 ^ 64 → n < 2 ^ 64 → decimal m ++ 32 ∷ xs ≡ decimal n ++ 32 ∷ ys → (m ≡ n) × (xs ≡ ys)
number_front m n xs ys fm fn e =
    let parts = first_same 32 (decimal m) (decimal n) xs ys (decimal_spaceless m fm) (decimal_spaceless n fn) e in
    (decimal_injective m n fm fn parts.0, parts.1)

-- a layer with a region is one of two
pub upper_cases : (n : ℕ) → IsTrue (is_upper n) → (n ≡ 2) ⊎ (n ≡ 3)
upper_cases n upper = grind (arith, upper)

pub upper_within : (n : ℕ) → IsTrue (is_upper n) → (2 ≤ n) × (n ≤ 3)
upper_within n upper = (grind (arith, upper), grind (arith, upper))

-- a layer with a region, and a number with no limit of its own, are below 2 ^ 64
pub upper_fits : (n : ℕ) → IsTrue (is_upper n) → n < 2 ^ 64
upper_fits n upper = grind (arith, upper)

pub limited_fits : (n : ℕ) → n ≤ number_limit → n < 2 ^ 64
limited_fits n fits = omega (arith, fits)

-- ---- names

pub name_spaceless : (name : List ℕ) → IsName name → Without 32 name
name_spaceless name is =
    All-weaker (λ (byte : ℕ). (0x21 ≤ byte) × (byte ≤ 0x7E)) (isnt 32) (λ byte printed space. omega (arith, printed.0, space)) name is.printed

-- ---- hexadecimal words

-- the word of bytes is read back
pub hex_word-read : (bytes : List ℕ) → IsBytes bytes → IsHex (hex_word bytes) bytes
hex_word-read [] are = inl (refl, refl)
hex_word-read (byte ∷ bytes) are =
    inr ((λ none. omega (arith, length-encode_with (codes "0123456789abcdef") (byte ∷ bytes), ap length none)), decode_of-encode_lower (byte ∷ bytes) are)

-- the word of bytes, of which there are some, has their digits
pub hex_word-some : (bytes : List ℕ) → 0 < length bytes → hex_word bytes ≡ encode_lower bytes
hex_word-some [] some = absurd (omega (arith, some))
hex_word-some (byte ∷ bytes) some = refl

-- a dash is no digits
dash_digits : (word bytes : List ℕ) → word ≡ codes "-" → decode_of word ≡ Ok bytes → ⊥
dash_digits word bytes dash digits =
    let even = (decode_of-ok word bytes digits).0 in
    let one = ap length dash in
    omega (arith, even, one)

-- a hexadecimal word is one list of bytes
pub IsHex-same : (v w a b : List ℕ) → v ≡ w → IsHex v a → IsHex w b → a ≡ b
IsHex-same v w a b same (inl da) (inl db) = da.1 ∙ sym db.1
IsHex-same v w a b same (inl da) (inr xb) = absurd (dash_digits w b (sym same ∙ da.0) xb.1)
IsHex-same v w a b same (inr xa) (inl db) = absurd (dash_digits v a (same ∙ db.0) xa.1)
IsHex-same v w a b same (inr xa) (inr xb) =
    decode_of-same w a b (subst (λ (x : List ℕ). decode_of x ≡ Ok a) same xa.1) xb.1
