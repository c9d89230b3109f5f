-- What is appended of numbers and of hexadecimal words.
use Rattle.std.proofs.Common.{◌≡◌, ℕ, ◌+◌, ◌/◌, ◌%◌, ◌<◌, ◌≤◌, ◌^◌, List, [], ◌∷◌, ◌++◌, length, get_or, take, drop, refl, sym, ap, subst, ◌∙◌, arith, append-nil}
use Rattle.std.specs.Prelude.{Result, Ok, Err, slice_index}
use Rattle.std.specs.Global.{Vec}
use Rattle.std.specs.Fmt.{decimal}
use Rattle.std.proofs.lemmas.Fmt.{decimal_digit, decimal_step}
use Rattle.std.proofs.lemmas.List.{take_more, take-append-drop}
use Rattle.hex.specs.Hex.{encode_with, encode_lower, lower_digits}
use Rattle.mb_model.specs.chains.Lines.{hex_word}
use Rattle.mb_bytes.specs.Puts.{Appends, StopsShort, Puts}
use Rattle.mb_bytes.proofs.Putting.{puts_then, puts_stop, puts_stop_later}
use Rattle.mb_model_lemmas.proofs.WordLemmas.{hex_word-some}

-- ---- puts, one after another

-- a put after what was appended
pub puts_after : {E : Type 0} (a b : List ℕ) (old middle new : Vec ℕ) (r : Result (Unit {0}) E) → Appends a old middle → Puts b middle r new → Puts (a ++ b) old r new
puts_after {E} a b old middle new (Ok u) p q = puts_then p q
puts_after {E} a b old middle new (Err e) p q = puts_stop_later p q

-- ---- numbers

pub number_stops : (n : ℕ) (old new : Vec ℕ) → 10 ≤ n → n < 2 ^ 64 → StopsShort (decimal (n / 10)) old new → StopsShort (decimal n) old new
number_stops n old new most fits stops =
    subst (λ (x : List ℕ). StopsShort x old new) (sym (decimal_step n most fits)) (puts_stop ((48 + n % 10) ∷ []) stops)

pub number_ends : {E : Type 0} (n digit : ℕ) (old middle new : Vec ℕ) (r : Result (Unit {0}) E) → 10 ≤ n → n < 2 ^ 64 → digit ≡ 48 + n % 10 → Appends (decimal (n / 10)) old middle
    → Puts (digit ∷ []) middle r new → Puts (decimal n) old r new
number_ends {E} n digit old middle new r most fits is front last =
    let whole = ap (λ (d : ℕ). decimal (n / 10) ++ d ∷ []) is ∙ sym (decimal_step n most fits) in
    subst (λ (x : List ℕ). Puts x old r new) whole (puts_after (decimal (n / 10)) (digit ∷ []) old middle new r front last)

pub one_digit_put : {E : Type 0} (n digit : ℕ) (old new : Vec ℕ) (r : Result (Unit {0}) E) → n < 10 → digit ≡ 48 + n % 10 → Puts (digit ∷ []) old r new → Puts (decimal n) old r new
one_digit_put {E} n digit old new r less is last =
    let small : n % 10 ≡ n = omega arith in
    let whole = ap (λ (d : ℕ). d ∷ []) (is ∙ ap (λ (d : ℕ). 48 + d) small) ∙ sym (decimal_digit n less) in
    subst (λ (x : List ℕ). Puts x old r new) whole last

-- ---- hexadecimal

pub encode-append : (a b : List ℕ) → encode_lower (a ++ b) ≡ encode_lower a ++ encode_lower b
unfolding encode_with
encode-append [] b = refl
encode-append (x ∷ a) b =
    ap (λ (rest : List ℕ). slice_index lower_digits (x / 16) ∷ slice_index lower_digits (x % 16) ∷ rest) (encode-append a b)

-- the digits of one byte more
pub encode_more : (bytes : List ℕ) (i byte : ℕ) → i < length bytes → byte ≡ get_or bytes i 0 → encode_lower (take (i + 1) bytes) ≡ encode_lower (take i bytes) ++ encode_lower (byte ∷ [])
encode_more bytes i byte less is =
    ap encode_lower (take_more bytes i 0 less ∙ ap (λ (b : ℕ). take i bytes ++ b ∷ []) (sym is)) ∙ encode-append (take i bytes) (byte ∷ [])

pub nothing_put : (out : Vec ℕ) → Appends (encode_lower []) out out
unfolding encode_with
nothing_put out = record { items = sym (append-nil out.items); len = omega arith; capacity = omega arith }

pub hex_goes_on : (bytes : List ℕ) (i byte : ℕ) (old middle new : Vec ℕ) → i < length bytes → byte ≡ get_or bytes i 0
    → Appends (encode_lower (take i bytes)) old middle → Appends (encode_lower (byte ∷ [])) middle new → Appends (encode_lower (take (i + 1) bytes)) old new
hex_goes_on bytes i byte old middle new less is front more =
    subst (λ (x : List ℕ). Appends x old new) (sym (encode_more bytes i byte less is)) (puts_then front more)

pub hex_stops : (bytes : List ℕ) (i byte : ℕ) (old middle new : Vec ℕ) → i < length bytes → byte ≡ get_or bytes i 0 → 0 < length bytes
    → Appends (encode_lower (take i bytes)) old middle → StopsShort (encode_lower (byte ∷ [])) middle new → StopsShort (hex_word bytes) old new
hex_stops bytes i byte old middle new less is some front stops =
    let one = encode_more bytes i byte less is in
    let whole = sym (encode-append (take (i + 1) bytes) (drop (i + 1) bytes)) ∙ ap encode_lower (take-append-drop (i + 1) bytes) ∙ sym (hex_word-some bytes some) in
    let here = subst (λ (x : List ℕ). StopsShort x old new) (sym one) (puts_stop_later front stops) in
    subst (λ (x : List ℕ). StopsShort x old new) whole (puts_stop (encode_lower (drop (i + 1) bytes)) here)
