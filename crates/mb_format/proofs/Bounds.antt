-- How far formats read, and how long spellings are.
use Rattle.std.proofs.Common.{◌≡◌, ℕ, zero, suc, ◌+◌, ◌-◌, ◌*◌, ◌<◌, ◌≤◌, inl, inr, Bool, true, false, cond, ltb, List, length, take, drop, Option, Some, None, Result, Ok, Err, refl, sym, ap, ◌∙◌, arith}
use Rattle.std.specs.Int.{Width, byte_len, from_be_bytes}
use Rattle.std.specs.Option.{is_some}
use Rattle.std.proofs.lemmas.Bool.{cases_lt, lt-ltb, le-ltb}
use Rattle.std.proofs.lemmas.List.{take-take, length-append, length-take, drop-take}
use Rattle.mb_format.specs.Format.{IsOffset, SpelledAt, Format, IsShort}
use Rattle.mb_format.specs.Combinators.{raw, number_bytes, number, decoded, coded, limit, in_range, between, row_of, table, listed, raw_that, mark, nothing, both, pair, spelling_of, AllowedOf, as_value, as_record, led, then_value, either, flag_rows, flag_byte, flag, present, optional, cons, uncons, items, times, sized, sized_that, counted}
use Rattle.mb_format.specs.Reading.{IsExact, IsLocal, offset_of, raw_at, number_at, stood_for, decode_read, with_first, then_read, into_read}
use Rattle.mb_format.proofs.Exact.{after_offset}
use Rattle.mb_format.proofs.Fields.{IsWide, wide8, between_exact}

-- ---- how long spellings are

pub short_more : {A : Type 0} {f : Format A} {m n : ℕ} → IsShort f m → m ≤ n → IsShort f n
short_more is le = record { short = λ a h. (let at_most = is.short a h in omega arith) }

pub raw_short : {n : ℕ} → IsShort (raw n) n
raw_short = record { short = λ bytes h. omega (arith, h) }

pub number_short : {w : Width} → IsWide w → IsShort (number w) (byte_len w)
unfolding number_bytes
number_short wide = record { short = λ a h. omega (arith, wide.len a) }

pub coded_short : {A : Type 0} {w : Width} (Allowed : A → Type 0) (decode : ℕ → Option A) (code : A → ℕ) → IsWide w → IsShort (coded w code Allowed decode) (byte_len w)
unfolding number_bytes
coded_short Allowed decode code wide = record { short = λ a h. omega (arith, wide.len (code a)) }

pub between_short : {w : Width} (least most : ℕ) → IsWide w → IsShort (between w least most) (byte_len w)
between_short least most wide = coded_short (λ n. (least ≤ n) × (n ≤ most)) (in_range least most) (λ n. n) wide

pub table_short : {A : Type 0} {w : Width} (rows : List (ℕ × A)) (code : A → ℕ) → IsWide w → IsShort (table w rows code) (byte_len w)
table_short {A} rows code wide = coded_short (λ (a : A). Unit {0}) (row_of rows) code wide

pub listed_short : {A : Type 0} {w : Width} (rows : List (ℕ × A)) (code : A → ℕ) → IsWide w → IsShort (listed w rows code) (byte_len w)
listed_short {A} rows code wide = coded_short (λ (a : A). row_of rows (code a) ≡ Some a) (row_of rows) code wide

pub raw_that_short : (test : List ℕ → Bool) (n : ℕ) → IsShort (raw_that test n) n
raw_that_short test n = record { short = λ a h. omega (arith, h.0) }

pub mark_short : (word : List ℕ) → IsShort (mark word) (length word)
mark_short word = record { short = λ a h. omega arith }

pub nothing_short : {A : Type 0} {a : A} → IsShort (nothing a) 0
nothing_short = record { short = λ a h. omega arith }

pub both_short : {A B : Type 0} {f : Format A} {g : A → Format B} {m n : ℕ} → IsShort f m → ((a : A) → f.Allowed a → IsShort (g a) n) → IsShort (both f g) (m + n)
both_short {f} {g} first second = record {
  short = λ p h. (
      let one = first.short p.0 h.0 in
      let other = (second p.0 h.0).short p.1 h.1 in
      omega (arith, length-append (f.spelling p.0) ((g p.0).spelling p.1)));
}

pub pair_short : {A B : Type 0} {f : Format A} {g : Format B} {m n : ℕ} → IsShort f m → IsShort g n → IsShort (pair f g) (m + n)
pair_short first second = both_short first (λ a h. second)

out_short : {A : Type 0} (f : Format A) (n : ℕ) → IsShort f n → (o : Option A) → AllowedOf f o → length (spelling_of f o) ≤ n
out_short f n is (Some a) h = is.short a h
out_short f n is None h = absurd h

pub as_value_short : {A B : Type 0} {f : Format A} {n : ℕ} (into : A → B) (out : B → Option A) → IsShort f n → IsShort (as_value f into out) n
as_value_short {f} {n} into out is = record { short = λ b h. out_short f n is (out b) h }

pub as_record_short : {A B : Type 0} {f : Format A} {n : ℕ} (into : A → B) (parts : B → A) → IsShort f n → IsShort (as_record f into parts) n
as_record_short {f} into parts is = as_value_short {f = f} into (λ b. Some (parts b)) is

pub led_short : {K B : Type 0} {f : Format K} {g : K → Format B} {m n : ℕ} (key : B → K) → IsShort f m → ((k : K) → f.Allowed k → IsShort (g k) n) → IsShort (led f key g) (m + n)
led_short {f} {g} key first second = as_record_short {f = both f g} (λ p. p.1) (λ b. (key b, b)) (both_short first second)

pub then_value_short : {B : Type 0} {f : Format (Unit {0})} {g : Format B} {m n : ℕ} → IsShort f m → IsShort g n → IsShort (then_value f g) (m + n)
then_value_short {B} {f} {g} first second = as_record_short {f = pair f g} (λ p. p.1) (λ b. (tt, b)) (pair_short first second)

pub either_short : {A : Type 0} {f g : Format A} {n : ℕ} (b : Bool) → IsShort f n → IsShort g n → IsShort (either b f g) n
either_short true one other = one
either_short false one other = other

pub flag_short : IsShort flag 1
flag_short = table_short flag_rows flag_byte wide8

pub present_short : {A : Type 0} {f : Format A} {n : ℕ} → IsShort f n → IsShort (present f) n
present_short {A} {f} is = as_value_short {f = f} Some (λ o. o) is

pub optional_short : {A : Type 0} {f : Format A} {n : ℕ} → IsShort f n → IsShort (optional f) (1 + n)
optional_short is = led_short is_some flag_short (λ there h. either_short there (present_short is) (short_more nothing_short (omega arith)))

pub items_short : {A S : Type 0} {item : S → Format A} {k : ℕ} (next : S → A → S) (n : ℕ) (state : S) → ((s : S) → IsShort (item s) k) → IsShort (items item next n state) (n * k)
unfolding items
items_short next zero state each = record { short = λ xs h. omega arith }
items_short {A} {S} {item} {k} next (suc n) state each =
    short_more (as_value_short {f = both (item state) (λ a. items item next n (next state a))} cons uncons (both_short (each state) (λ a h. items_short next n (next state a) each))) (omega arith)

pub times_short : {A : Type 0} {item : Format A} {k : ℕ} (n : ℕ) → IsShort item k → IsShort (times n item) (n * k)
times_short {A} {item} n each = items_short {item = λ (u : Unit {0}). item} (λ u a. u) n tt (λ u. each)

pub sized_short : {w : Width} (least most : ℕ) → IsWide w → IsShort (sized (between w least most)) (byte_len w + most)
sized_short least most wide = led_short length (between_short least most wide) (λ n h. short_more raw_short h.1)

pub sized_that_short : {w : Width} (test : List ℕ → Bool) (least most : ℕ) → IsWide w → IsShort (sized_that test (between w least most)) (byte_len w + most)
sized_that_short test least most wide = led_short length (between_short least most wide) (λ n h. short_more (raw_that_short test n) h.1)

pub counted_short : {A : Type 0} {item : Format A} {w : Width} {k : ℕ} (least most : ℕ) → IsWide w → IsShort item k → IsShort (counted (between w least most) item) (byte_len w + most * k)
counted_short {A} {item} {w} {k} least most wide each =
    led_short length (between_short least most wide) (λ n h. (let le = mul_right n most k h.1 in short_more (times_short n each) le))
  where
    mul_right : (n most k : ℕ) → n ≤ most → n * k ≤ most * k
    mul_right n most k h = grind arith

-- ---- how far formats read

pub local_more : {A : Type 0} {f : Format A} {m n : ℕ} → IsLocal f m → m ≤ n → IsLocal f n
local_more is le = record {
  same = λ bytes at k p h. is.same bytes at k p (omega arith);
  near = λ bytes at p. (let at_most = is.near bytes at p in omega arith);
}

-- n bytes at an offset are the same in the first m bytes, where these reach as far
cut_piece : (bytes : List ℕ) (at n m : ℕ) → at + n ≤ m → take n (drop at (take m bytes)) ≡ take n (drop at bytes)
cut_piece bytes at n m h =
    let far : m ≡ at + (m - at) = omega arith in
    let cut : drop at (take m bytes) ≡ take (m - at) (drop at bytes) = ap (λ (k : ℕ). drop at (take k bytes)) far ∙ drop-take at (m - at) bytes in
    ap (take n) cut ∙ take-take n (m - at) (drop at bytes) (omega arith)

-- so are whether they are there
cut_test : (bytes : List ℕ) (at n m : ℕ) → at + n ≤ m → ltb (length (take m bytes)) (at + n) ≡ ltb (length bytes) (at + n)
cut_test bytes at n m h =
    elim (cases_lt (length bytes) (at + n)) [
      | inl lt ↦ lt-ltb _ _ (omega (arith, length-take m bytes)) ∙ sym (lt-ltb _ _ lt)
      | inr le ↦ le-ltb _ _ (omega (arith, length-take m bytes)) ∙ sym (le-ltb _ _ le)
    ]

raw_near : (b : Bool) (at n : ℕ) (xs : List ℕ) → offset_of (cond b (Err at) (Ok (xs, at + n))) ≤ at + n
raw_near true at n xs = omega arith
raw_near false at n xs = omega arith

number_near : (b : Bool) (at n x : ℕ) → offset_of (cond b (Err at) (Ok (x, at + n))) ≤ at + n
number_near true at n x = omega arith
number_near false at n x = omega arith

pub raw_local : {n : ℕ} → IsLocal (raw n) n
unfolding raw_at
raw_local {n} = record {
  same = λ bytes at m p h. rw (cut_test bytes at n m h, cut_piece bytes at n m h) refl;
  near = λ bytes at p. raw_near (ltb (length bytes) (at + n)) at n (take n (drop at bytes));
}

pub number_local : (w : Width) → IsLocal (number w) (byte_len w)
unfolding number_at
number_local w = record {
  same = λ bytes at m p h. rw (cut_test bytes at (byte_len w) m h, cut_piece bytes at (byte_len w) m h) refl;
  near = λ bytes at p. number_near (ltb (length bytes) (at + byte_len w)) at (byte_len w) (from_be_bytes w (take (byte_len w) (drop at bytes)));
}

decode_near : {N A : Type 0} (decode : N → Option A) (at n : ℕ) (r : Result (N × ℕ) ℕ) → offset_of r ≤ at + n → offset_of (decode_read decode at r) ≤ at + n
decode_near decode at n (Ok r) h = stood_near (decode r.0)
  where
    stood_near : {A : Type 0} (o : Option A) → offset_of (stood_for at r.1 o) ≤ at + n
    stood_near (Some a) = h
    stood_near None = omega arith
decode_near decode at n (Err p) h = h

pub decoded_local : {N A : Type 0} {f : Format N} {n : ℕ} (Allowed : A → Type 0) (decode : N → Option A) (code : A → N) → IsLocal f n → IsLocal (decoded f code Allowed decode) n
decoded_local {N} {A} {f} {n} Allowed decode code is = record {
  same = λ bytes at m p h. ap (decode_read decode at) (is.same bytes at m p h);
  near = λ bytes at p. decode_near decode at n (f.reads bytes at) (is.near bytes at p);
}

pub between_local : (w : Width) (least most : ℕ) → IsLocal (between w least most) (byte_len w)
between_local w least most = decoded_local {f = number w} (λ n. (least ≤ n) × (n ≤ most)) (in_range least most) (λ n. n) (number_local w)

pub table_local : {A : Type 0} (w : Width) (rows : List (ℕ × A)) (code : A → ℕ) → IsLocal (table w rows code) (byte_len w)
table_local {A} w rows code = decoded_local {f = number w} (λ (a : A). Unit {0}) (row_of rows) code (number_local w)

pub listed_local : {A : Type 0} (w : Width) (rows : List (ℕ × A)) (code : A → ℕ) → IsLocal (listed w rows code) (byte_len w)
listed_local {A} w rows code = decoded_local {f = number w} (λ (a : A). row_of rows (code a) ≡ Some a) (row_of rows) code (number_local w)

pub nothing_local : {A : Type 0} {a : A} → IsLocal (nothing a) 0
nothing_local = record { same = λ bytes at m p h. refl; near = λ bytes at p. omega arith }

with_first_near : {A B : Type 0} (a : A) (n : ℕ) (t : Result (B × ℕ) ℕ) → offset_of t ≤ n → offset_of (with_first a t) ≤ n
with_first_near a n (Ok t) h = h
with_first_near a n (Err p) h = h

both_same : {A B : Type 0} (f : Format A) (g : A → Format B) (m n : ℕ) → ((a : A) → f.Allowed a → IsLocal (g a) n) → (bytes : List ℕ) (at k : ℕ) → IsOffset bytes at → at + (m + n) ≤ k
    → (r : Result (A × ℕ) ℕ) → ((a : A) (middle : ℕ) → r ≡ Ok (a, middle) → SpelledAt f.spelling f.Allowed bytes at a middle) → offset_of r ≤ at + m
    → then_read r (λ a middle. (g a).reads (take k bytes) middle) ≡ then_read r (λ a middle. (g a).reads bytes middle)
both_same f g m n second bytes at k p h (Err q) spelled near = refl
both_same f g m n second bytes at k p h (Ok r) spelled near =
    let s = spelled r.0 r.1 refl in
    let reach : r.1 + n ≤ k = omega arith in
    ap (with_first r.0) ((second r.0 s.allowed).same bytes r.1 k (after_offset f.spelling f.Allowed bytes at r.0 r.1 p s) reach)

both_near : {A B : Type 0} (f : Format A) (g : A → Format B) (m n : ℕ) → ((a : A) → f.Allowed a → IsLocal (g a) n) → (bytes : List ℕ) (at : ℕ) → IsOffset bytes at
    → (r : Result (A × ℕ) ℕ) → ((a : A) (middle : ℕ) → r ≡ Ok (a, middle) → SpelledAt f.spelling f.Allowed bytes at a middle) → offset_of r ≤ at + m
    → offset_of (then_read r (λ a middle. (g a).reads bytes middle)) ≤ at + (m + n)
both_near f g m n second bytes at p (Err q) spelled near = omega (arith, near)
both_near f g m n second bytes at p (Ok r) spelled near =
    let s = spelled r.0 r.1 refl in
    let end : offset_of ((g r.0).reads bytes r.1) ≤ r.1 + n = (second r.0 s.allowed).near bytes r.1 (after_offset f.spelling f.Allowed bytes at r.0 r.1 p s) in
    let reach : r.1 ≤ at + m = near in
    with_first_near r.0 (at + (m + n)) ((g r.0).reads bytes r.1) (omega arith)

pub both_local : {A B : Type 0} {f : Format A} {g : A → Format B} {m n : ℕ} → IsExact f → IsLocal f m → ((a : A) → f.Allowed a → IsLocal (g a) n) → IsLocal (both f g) (m + n)
both_local {A} {B} {f} {g} {m} {n} exact first second = record {
  same = λ bytes at k p h. (
      let cut : f.reads (take k bytes) at ≡ f.reads bytes at = first.same bytes at k p (omega arith) in
      rw cut (both_same f g m n second bytes at k p h (f.reads bytes at) (λ a middle. exact.found bytes at a middle p) (first.near bytes at p)));
  near = λ bytes at p. both_near f g m n second bytes at p (f.reads bytes at) (λ a middle. exact.found bytes at a middle p) (first.near bytes at p);
}

pub pair_local : {A B : Type 0} {f : Format A} {g : Format B} {m n : ℕ} → IsExact f → IsLocal f m → IsLocal g n → IsLocal (pair f g) (m + n)
pair_local exact first second = both_local exact first (λ a h. second)

into_near : {A B : Type 0} (into : A → B) (n : ℕ) (r : Result (A × ℕ) ℕ) → offset_of r ≤ n → offset_of (into_read into r) ≤ n
into_near into n (Ok r) h = h
into_near into n (Err p) h = h

pub as_value_local : {A B : Type 0} {f : Format A} {n : ℕ} (into : A → B) (out : B → Option A) → IsLocal f n → IsLocal (as_value f into out) n
as_value_local {A} {B} {f} {n} into out is = record {
  same = λ bytes at m p h. ap (into_read into) (is.same bytes at m p h);
  near = λ bytes at p. into_near into (at + n) (f.reads bytes at) (is.near bytes at p);
}

pub as_record_local : {A B : Type 0} {f : Format A} {n : ℕ} (into : A → B) (parts : B → A) → IsLocal f n → IsLocal (as_record f into parts) n
as_record_local {f} into parts is = as_value_local {f = f} into (λ b. Some (parts b)) is

pub led_local : {K B : Type 0} {f : Format K} {g : K → Format B} {m n : ℕ} (key : B → K) → IsExact f → IsLocal f m → ((k : K) → f.Allowed k → IsLocal (g k) n) → IsLocal (led f key g) (m + n)
led_local {f} {g} key exact first second = as_record_local {f = both f g} (λ p. p.1) (λ b. (key b, b)) (both_local exact first second)

pub items_local : {A S : Type 0} {item : S → Format A} {k : ℕ} (next : S → A → S) (n : ℕ) (state : S) → ((s : S) → IsExact (item s)) → ((s : S) → IsLocal (item s) k) → IsLocal (items item next n state) (n * k)
unfolding items
items_local next zero state exact each = local_more nothing_local (omega arith)
items_local {A} {S} {item} {k} next (suc n) state exact each =
    local_more (as_value_local {f = both (item state) (λ a. items item next n (next state a))} cons uncons (both_local (exact state) (each state) (λ a h. items_local next n (next state a) exact each))) (omega arith)

pub times_local : {A : Type 0} {item : Format A} {k : ℕ} (n : ℕ) → IsExact item → IsLocal item k → IsLocal (times n item) (n * k)
times_local {A} {item} n exact each = items_local {item = λ (u : Unit {0}). item} (λ u a. u) n tt (λ u. exact) (λ u. each)

pub sized_local : {w : Width} (least most : ℕ) → IsWide w → most < limit w → IsLocal (sized (between w least most)) (byte_len w + most)
sized_local {w} least most wide lt = led_local length (between_exact wide lt) (between_local w least most) (λ n h. local_more raw_local h.1)

pub counted_local : {A : Type 0} {item : Format A} {w : Width} {k : ℕ} (least most : ℕ) → IsWide w → most < limit w → IsExact item → IsLocal item k → IsLocal (counted (between w least most) item) (byte_len w + most * k)
counted_local {A} {item} {w} {k} least most wide lt exact each =
    led_local length (between_exact wide lt) (between_local w least most) (λ n h. (let le = mul_right n most k h.1 in local_more (times_local n exact each) le))
  where
    mul_right : (n most k : ℕ) → n ≤ most → n * k ≤ most * k
    mul_right n most k h = grind arith
