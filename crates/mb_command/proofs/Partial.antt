-- Numbers of which only the first bytes are there.
use Rattle.std.proofs.Common.{◌≡◌, ℕ, ◌+◌, ◌-◌, ◌<◌, ◌≤◌, ◌⊎◌, inl, inr, Bool, true, false, cond, ltb, List, [], ◌∷◌, ◌++◌, length, take, drop, replicate, get_or, Option, Some, None, Ok, Err, refl, ap, ◌∙◌, arith}
use Rattle.std.specs.Int.{Width, w8, w16, w32, byte_len, from_be_bytes}
use Rattle.std.proofs.lemmas.Bool.{cases_lt, lt-ltb, le-ltb}
use Rattle.std.proofs.lemmas.List.{length-append, length-replicate, length-drop, drop-append-le, get_or_append_left, get_or_past, get_or-take, take_all}
use Rattle.mb_format.specs.Format.{IsBytes}
use Rattle.mb_format.specs.Combinators.{number, coded, in_range}
use Rattle.mb_format.specs.Reading.{number_at, decode_read}
use Rattle.mb_format.proofs.Exact.{IsBytes-none, IsBytes-append, IsBytes-cons, IsBytes-replicate}
use Rattle.mb_command.specs.Beginnings.{FailsFrom, CanEndFrom}

-- what the first bytes of a number say of it, where the bytes that are missing count as zeros
pub record IsPartial (w : Width) : Type 0 where
  pub rises : (xs ys : List ℕ) → ((i : ℕ) → get_or xs i 0 ≤ get_or ys i 0) → from_be_bytes w xs ≤ from_be_bytes w ys
  pub filled : (front : List ℕ) (d : ℕ) → length front < byte_len w → from_be_bytes w (front ++ (replicate (byte_len w - length front - 1) 0 ++ d ∷ [])) ≡ from_be_bytes w front + d
  pub coarse : (front : List ℕ) → length front < byte_len w → from_be_bytes w front < 256 → from_be_bytes w front ≡ 0

filled_8 : (front : List ℕ) (d : ℕ) → length front < 1 → from_be_bytes w8 (front ++ (replicate (1 - length front - 1) 0 ++ d ∷ [])) ≡ from_be_bytes w8 front + d
filled_8 [] d lt = omega arith
filled_8 (a ∷ front) d lt = absurd (omega arith)

pub partial8 : IsPartial w8
partial8 = record {
  rises = λ xs ys h. omega (arith, h 0);
  filled = filled_8;
  coarse = λ front lt small. omega (arith, get_or_past front 0 0 (omega arith));
}

filled_16 : (front : List ℕ) (d : ℕ) → length front < 2 → from_be_bytes w16 (front ++ (replicate (2 - length front - 1) 0 ++ d ∷ [])) ≡ from_be_bytes w16 front + d
filled_16 [] d lt = omega arith
filled_16 (a ∷ []) d lt = omega arith
filled_16 (a ∷ (b ∷ front)) d lt = absurd (omega arith)

pub partial16 : IsPartial w16
partial16 = record {
  rises = λ xs ys h. omega (arith, h 0, h 1);
  filled = filled_16;
  coarse = λ front lt small. omega (arith, get_or_past front 1 0 (omega arith));
}

filled_32 : (front : List ℕ) (d : ℕ) → length front < 4 → from_be_bytes w32 (front ++ (replicate (4 - length front - 1) 0 ++ d ∷ [])) ≡ from_be_bytes w32 front + d
filled_32 [] d lt = omega arith
filled_32 (a ∷ []) d lt = omega arith
filled_32 (a ∷ (b ∷ [])) d lt = omega arith
filled_32 (a ∷ (b ∷ (c ∷ []))) d lt = omega arith
filled_32 (a ∷ (b ∷ (c ∷ (e ∷ front)))) d lt = absurd (omega arith)

pub partial32 : IsPartial w32
partial32 = record {
  rises = λ xs ys h. omega (arith, h 0, h 1, h 2, h 3);
  filled = filled_32;
  coarse = λ front lt small. omega (arith, get_or_past front 3 0 (omega arith));
}

-- ---- what is read once more bytes are there

number_short : (w : Width) (bytes : List ℕ) (at : ℕ) → length bytes < at + byte_len w → number_at w bytes at ≡ Err at
unfolding number_at
number_short w bytes at lt = rw (lt-ltb _ _ lt) refl

pub number_long : (w : Width) (bytes : List ℕ) (at : ℕ) → at + byte_len w ≤ length bytes → number_at w bytes at ≡ Ok (from_be_bytes w (take (byte_len w) (drop at bytes)), at + byte_len w)
unfolding number_at
number_long w bytes at le = rw (le-ltb _ _ le) refl

-- the number is at least what its first bytes say
least_said : (w : Width) → IsPartial w → (bytes more : List ℕ) (at : ℕ) → at ≤ length bytes → length bytes < at + byte_len w
    → from_be_bytes w (drop at bytes) ≤ from_be_bytes w (take (byte_len w) (drop at (bytes ++ more)))
least_said w is bytes more at within lt = is.rises (drop at bytes) (take (byte_len w) (drop at (bytes ++ more))) each
  where
    few : length (drop at bytes) < byte_len w
    few = omega (arith, within, lt, length-drop at bytes)

    each : (i : ℕ) → get_or (drop at bytes) i 0 ≤ get_or (take (byte_len w) (drop at (bytes ++ more))) i 0
    each i =
        elim (cases_lt i (length (drop at bytes))) [
          | inl there ↦ rw (get_or-take (byte_len w) (drop at (bytes ++ more)) i 0 (omega (arith, there, few)), drop-append-le at bytes more within, get_or_append_left (drop at bytes) more 0 i there) (omega arith)
          | inr past ↦ rw (get_or_past (drop at bytes) i 0 past) (omega arith)
        ]

-- the bytes by which the first bytes of a number become the number that is greater by d
unfoldable pub rest_of : Width → List ℕ → ℕ → List ℕ
rest_of w front d = replicate (byte_len w - length front - 1) 0 ++ d ∷ []

rest_is : (w : Width) (front : List ℕ) (d : ℕ) → d < 256 → IsBytes (rest_of w front d)
unfolding rest_of
rest_is w front d lt = IsBytes-append (replicate (byte_len w - length front - 1) 0) (d ∷ []) (IsBytes-replicate (byte_len w - length front - 1) 0 (omega arith)) (IsBytes-cons d [] lt IsBytes-none)

rest_length : (w : Width) (front : List ℕ) (d : ℕ) → length front < byte_len w → length (rest_of w front d) ≡ byte_len w - length front
unfolding rest_of
rest_length w front d lt = omega (arith, lt, length-append (replicate (byte_len w - length front - 1) 0) (d ∷ []), length-replicate {A = ℕ} (byte_len w - length front - 1) 0)

number_filled : (w : Width) → IsPartial w → (bytes : List ℕ) (at d : ℕ) → at ≤ length bytes → length bytes < at + byte_len w
    → number_at w (bytes ++ rest_of w (drop at bytes) d) at ≡ Ok (from_be_bytes w (drop at bytes) + d, length (bytes ++ rest_of w (drop at bytes) d))
unfolding rest_of
number_filled w is bytes at d within lt =
    let front = drop at bytes in
    let rest = rest_of w (drop at bytes) d in
    let few : length (drop at bytes) < byte_len w = omega (arith, within, lt, length-drop at bytes) in
    let rest_len = rest_length w (drop at bytes) d few in
    let long : length (bytes ++ rest_of w (drop at bytes) d) ≡ at + byte_len w = omega (arith, within, few, rest_len, length-drop at bytes, length-append bytes (rest_of w (drop at bytes) d)) in
    let joined : take (byte_len w) (drop at (bytes ++ rest_of w (drop at bytes) d)) ≡ drop at bytes ++ rest_of w (drop at bytes) d =
    ap (take (byte_len w)) (drop-append-le at bytes (rest_of w (drop at bytes) d) within) ∙ take_all (byte_len w) (drop at bytes ++ rest_of w (drop at bytes) d) (omega (arith, few, rest_len, length-append (drop at bytes) (rest_of w (drop at bytes) d))) in
    let value : from_be_bytes w (take (byte_len w) (drop at (bytes ++ rest_of w (drop at bytes) d))) ≡ from_be_bytes w (drop at bytes) + d = ap (from_be_bytes w) joined ∙ is.filled (drop at bytes) d few in
    rw (number_long w (bytes ++ rest_of w (drop at bytes) d) at (omega (arith, long)), value, long) refl

-- ---- fields

pub number_open : (w : Width) → IsPartial w → (bytes : List ℕ) (at : ℕ) → at ≤ length bytes → length bytes < at + byte_len w → CanEndFrom (number w) bytes at
number_open w is bytes at within lt = record {
  more = rest_of w (drop at bytes) 0;
  are_bytes = rest_is w (drop at bytes) 0 (omega arith);
  value = from_be_bytes w (drop at bytes) + 0;
  reads = number_filled w is bytes at 0 within lt;
}

pub coded_lost : {A : Type 0} (w : Width) (code : A → ℕ) (Allowed : A → Type 0) (decode : ℕ → Option A) (most : ℕ) → IsPartial w → ((n : ℕ) → most < n → decode n ≡ None) → (bytes : List ℕ) (at : ℕ) → at ≤ length bytes → length bytes < at + byte_len w
    → most < from_be_bytes w (drop at bytes) → FailsFrom (coded w code Allowed decode) bytes at at
coded_lost w code Allowed decode most is above bytes at within lt gt = record { fails = λ more h. each more (cases_lt (length (bytes ++ more)) (at + byte_len w)) }
  where
    each : (more : List ℕ) → (length (bytes ++ more) < at + byte_len w) ⊎ (at + byte_len w ≤ length (bytes ++ more)) → decode_read decode at (number_at w (bytes ++ more) at) ≡ Err at
    each more (inl short) = rw (number_short w (bytes ++ more) at short) refl
    each more (inr long) =
        let least = least_said w is bytes more at within lt in
        rw (number_long w (bytes ++ more) at long, above (from_be_bytes w (take (byte_len w) (drop at (bytes ++ more)))) (omega (arith, least, gt))) refl

pub coded_open : {A : Type 0} (w : Width) (code : A → ℕ) (Allowed : A → Type 0) (decode : ℕ → Option A) → IsPartial w → (bytes : List ℕ) (at d : ℕ) (a : A) → at ≤ length bytes → length bytes < at + byte_len w
    → d < 256 → decode (from_be_bytes w (drop at bytes) + d) ≡ Some a → CanEndFrom (coded w code Allowed decode) bytes at
coded_open w code Allowed decode is bytes at d a within lt small e = record {
  more = rest_of w (drop at bytes) d;
  are_bytes = rest_is w (drop at bytes) d small;
  value = a;
  reads = rw (number_filled w is bytes at d within lt, e) refl;
}

-- ---- numbers in a range

pub range_above : (least most n : ℕ) → most < n → in_range least most n ≡ None
range_above least most n gt = rw (lt-ltb most n gt) (either_none (ltb n least))
  where
    either_none : (b : Bool) → cond b None (cond true None (Some n)) ≡ None
    either_none true = refl
    either_none false = refl
