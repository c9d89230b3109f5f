-- Single fields are read exactly.
use Rattle.std.proofs.Common.{◌≡◌, ℕ, ◌+◌, ◌-◌, ◌%◌, ◌<◌, ◌≤◌, Bool, true, false, cond, IsTrue, ltb, List, [], ◌∷◌, length, take, drop, Option, Some, None, Result, Ok, Err, refl, sym, ap, subst, ◌∙◌, arith}
use Rattle.std.proofs.Common.{◌==◌}
use Rattle.std.specs.List.{AllByRecursion}
use Rattle.std.specs.Int.{Width, w8, w16, w32, w64, byte_len, from_be_bytes, to_be_bytes}
use Rattle.std.proofs.lemmas.Bool.{eqb-true, eq-eqb, ltb-true, ltb-false, le-ltb}
use Rattle.std.proofs.lemmas.List.{take_at, take-append-drop, length-take, length-drop, drop-drop}
use Rattle.std.proofs.lemmas.Nat.{be_bytes_2, be_bytes_4, be_bytes_8, from_be_bytes-to_be_bytes_2, from_be_bytes-to_be_bytes_4, from_be_bytes-to_be_bytes_8}
use Rattle.mb_format.specs.Format.{IsBytes, IsOffset, SpelledAt, Format}
use Rattle.mb_format.proofs.Exact.{IsBytes-drop, IsBytes-spelled, ok_parts}
use Rattle.mb_format.specs.Combinators.{field, raw, limit, number_bytes, number, decoded, in_range, between, row_of, table, listed, raw_that, same_bytes, mark, nothing}
use Rattle.mb_format.specs.Reading.{IsExact, raw_at, number_at, stood_for, decode_read}

-- a single field is read exactly, and fails at its beginning
pub record IsField {A : Type 0} (f : Format A) : Type 0 where
  pub exact : IsExact f
  pub begins : (bytes : List ℕ) (at offset : ℕ) → f.reads bytes at ≡ Err offset → offset ≡ at

field_failed : {A : Type 0} (spelling : A → List ℕ) (Allowed : A → Type 0) (bytes : List ℕ) (at offset : ℕ) → ((a : A) (after : ℕ) → SpelledAt spelling Allowed bytes at a after → ⊥) → offset ≡ at
    → (r : Result (A × ℕ) ℕ) → ((a : A) (after : ℕ) → r ≡ Ok (a, after) → SpelledAt spelling Allowed bytes at a after) → ((p : ℕ) → r ≡ Err p → p ≡ at) → r ≡ Err offset
field_failed spelling Allowed bytes at offset none here (Ok r) found begins = absurd (none r.0 r.1 (found r.0 r.1 refl))
field_failed spelling Allowed bytes at offset none here (Err p) found begins = ap Err (begins p refl ∙ sym here)

-- what a single field owes
pub is_field : {A : Type 0} (spelling : A → List ℕ) (Allowed : A → Type 0) (reads : List ℕ → ℕ → Result (A × ℕ) ℕ)
    → ((bytes : List ℕ) (at : ℕ) (a : A) (after : ℕ) → IsOffset bytes at → reads bytes at ≡ Ok (a, after) → SpelledAt spelling Allowed bytes at a after)
    → ((bytes : List ℕ) (at : ℕ) (a : A) (after : ℕ) → IsOffset bytes at → SpelledAt spelling Allowed bytes at a after → reads bytes at ≡ Ok (a, after))
    → ((bytes : List ℕ) (at offset : ℕ) → reads bytes at ≡ Err offset → offset ≡ at)
    → IsField (field spelling Allowed reads)
is_field spelling Allowed reads found finds begins = record {
  exact = record {
    found = found;
    finds = finds;
    fails = λ bytes at offset p e. record { here = begins bytes at offset e; none = λ a after s. (let o = finds bytes at a after p s in cc) };
    failed = λ bytes at offset p h. field_failed spelling Allowed bytes at offset h.none h.here (reads bytes at) (λ a after. found bytes at a after p) (begins bytes at);
  };
  begins = begins;
}

-- ---- raw bytes

guard_ok : {A : Type 0} (b : Bool) (p : ℕ) (x y : A) → cond b (Err p) (Ok x) ≡ Ok y → (b ≡ false) × (x ≡ y)
guard_ok true p x y e = absurd cc
guard_ok false p x y e = (refl, cc)

guard_err : {A : Type 0} (b : Bool) (p q : ℕ) (x : A) → cond b (Err p) (Ok x) ≡ Err q → q ≡ p
guard_err true p q x e = cc
guard_err false p q x e = absurd cc

-- a piece of n bytes is spelled by itself
piece : (n : ℕ) (bytes : List ℕ) (at : ℕ) → at + n ≤ length bytes → SpelledAt (λ (xs : List ℕ). xs) (λ xs. length xs ≡ n) bytes at (take n (drop at bytes)) (at + n)
piece n bytes at within =
    let long : length (drop at bytes) ≡ length bytes - at = length-drop at bytes in
    let len : length (take n (drop at bytes)) ≡ n = omega (arith, length-take n (drop at bytes)) in
    record {
      allowed = len;
      here = rw (← drop-drop n at bytes) (sym (take-append-drop n (drop at bytes)));
      ends = rw len;
      within = within;
    }

raw_found : (n : ℕ) (bytes : List ℕ) (at : ℕ) (a : List ℕ) (after : ℕ) → IsOffset bytes at → raw_at n bytes at ≡ Ok (a, after) → SpelledAt (λ (xs : List ℕ). xs) (λ xs. length xs ≡ n) bytes at a after
unfolding raw_at
raw_found n bytes at a after p e =
    let g = guard_ok (ltb (length bytes) (at + n)) at (take n (drop at bytes), at + n) (a, after) e in
    subst (λ (r : List ℕ × ℕ). SpelledAt (λ (xs : List ℕ). xs) (λ xs. length xs ≡ n) bytes at r.0 r.1) g.1 (piece n bytes at (ltb-false _ _ g.0))

raw_finds : (n : ℕ) (bytes : List ℕ) (at : ℕ) (a : List ℕ) (after : ℕ) → IsOffset bytes at → SpelledAt (λ (xs : List ℕ). xs) (λ xs. length xs ≡ n) bytes at a after → raw_at n bytes at ≡ Ok (a, after)
unfolding raw_at
raw_finds n bytes at a after p s =
    let long : ltb (length bytes) (at + n) ≡ false = le-ltb _ _ (omega arith) in
    let front : take n (drop at bytes) ≡ a = rw s.here (take_at a (drop after bytes) n s.allowed) in
    let end : at + n ≡ after = omega arith in
    rw (long, front, end) refl

raw_begins : (n : ℕ) (bytes : List ℕ) (at offset : ℕ) → raw_at n bytes at ≡ Err offset → offset ≡ at
unfolding raw_at
raw_begins n bytes at offset e = guard_err (ltb (length bytes) (at + n)) at offset (take n (drop at bytes), at + n) e

pub raw_field : (n : ℕ) → IsField (raw n)
raw_field n = is_field (λ xs. xs) (λ xs. length xs ≡ n) (raw_at n) (raw_found n) (raw_finds n) (raw_begins n)

pub raw_exact : (n : ℕ) → IsExact (raw n)
raw_exact n = (raw_field n).exact

-- ---- numbers

-- what makes a width one of numbers: their bytes are as many, and bytes and numbers determine each other
pub record IsWide (w : Width) : Type 0 where
  pub len : (n : ℕ) → length (to_be_bytes w n) ≡ byte_len w
  pub back : (bytes : List ℕ) → length bytes ≡ byte_len w → IsBytes bytes → to_be_bytes w (from_be_bytes w bytes) ≡ bytes
  pub again : (n : ℕ) → n < limit w → from_be_bytes w (to_be_bytes w n) ≡ n
  pub below : (bytes : List ℕ) → IsBytes bytes → from_be_bytes w bytes < limit w

back_8 : (bytes : List ℕ) → length bytes ≡ 1 → IsBytes bytes → to_be_bytes w8 (from_be_bytes w8 bytes) ≡ bytes
back_8 [] len fits = absurd (omega arith)
back_8 (x ∷ []) len fits =
    let small : x % 256 ≡ x = omega (arith, fits 0) in
    ap (λ (k : ℕ). k ∷ []) small
back_8 (x ∷ (y ∷ ys)) len fits = absurd (omega arith)

pub wide8 : IsWide w8
wide8 = record {
  len = λ n. refl;
  back = back_8;
  again = λ n lt. omega arith;
  below = λ bytes fits. omega (arith, fits 0);
}

pub wide16 : IsWide w16
wide16 = record {
  len = λ n. refl;
  back = λ bytes len fits. be_bytes_2 bytes _ len fits refl;
  again = λ n lt. from_be_bytes-to_be_bytes_2 n lt;
  below = λ bytes fits. omega (arith, fits 0, fits 1);
}

pub wide32 : IsWide w32
wide32 = record {
  len = λ n. refl;
  back = λ bytes len fits. be_bytes_4 bytes _ len fits refl;
  again = λ n lt. from_be_bytes-to_be_bytes_4 n lt;
  below = λ bytes fits. omega (arith, fits 0, fits 1, fits 2, fits 3);
}

pub wide64 : IsWide w64
wide64 = record {
  len = λ n. refl;
  back = λ bytes len fits. be_bytes_8 bytes _ len fits refl;
  again = λ n lt. from_be_bytes-to_be_bytes_8 n lt;
  below = λ bytes fits. omega (arith, fits 0, fits 1, fits 2, fits 3, fits 4, fits 5, fits 6, fits 7);
}

number_found : (w : Width) → IsWide w → (bytes : List ℕ) (at n after : ℕ) → IsOffset bytes at → number_at w bytes at ≡ Ok (n, after) → SpelledAt (number_bytes w) (λ n. n < limit w) bytes at n after
unfolding number_at number_bytes
number_found w wide bytes at n after p e =
    let size = byte_len w in
    let front = take (byte_len w) (drop at bytes) in
    let g = guard_ok (ltb (length bytes) (at + byte_len w)) at (from_be_bytes w (take (byte_len w) (drop at bytes)), at + byte_len w) (n, after) e in
    let s = piece (byte_len w) bytes at (ltb-false _ _ g.0) in
    let fits : IsBytes (take (byte_len w) (drop at bytes)) = IsBytes-spelled (drop at bytes) (take (byte_len w) (drop at bytes)) (drop (at + byte_len w) bytes) (IsBytes-drop at bytes p.are_bytes) s.here in
    let back = wide.back (take (byte_len w) (drop at bytes)) s.allowed fits in
    let whole : SpelledAt (number_bytes w) (λ n. n < limit w) bytes at (from_be_bytes w (take (byte_len w) (drop at bytes))) (at + byte_len w) = record {
      allowed = wide.below (take (byte_len w) (drop at bytes)) fits;
      here = rw back s.here;
      ends = rw (wide.len (from_be_bytes w (take (byte_len w) (drop at bytes)))) refl;
      within = s.within;
    } in
    subst (λ (r : ℕ × ℕ). SpelledAt (number_bytes w) (λ n. n < limit w) bytes at r.0 r.1) g.1 whole

number_finds : (w : Width) → IsWide w → (bytes : List ℕ) (at n after : ℕ) → IsOffset bytes at → SpelledAt (number_bytes w) (λ n. n < limit w) bytes at n after → number_at w bytes at ≡ Ok (n, after)
unfolding number_at number_bytes
number_finds w wide bytes at n after p s =
    let len = wide.len n in
    let long : ltb (length bytes) (at + byte_len w) ≡ false = le-ltb _ _ (omega arith) in
    let front : take (byte_len w) (drop at bytes) ≡ to_be_bytes w n = rw s.here (take_at (to_be_bytes w n) (drop after bytes) (byte_len w) len) in
    let end : at + byte_len w ≡ after = omega arith in
    rw (long, front, wide.again n s.allowed, end) refl

number_begins : (w : Width) (bytes : List ℕ) (at offset : ℕ) → number_at w bytes at ≡ Err offset → offset ≡ at
unfolding number_at
number_begins w bytes at offset e = guard_err (ltb (length bytes) (at + byte_len w)) at offset (from_be_bytes w (take (byte_len w) (drop at bytes)), at + byte_len w) e

pub number_field : {w : Width} → IsWide w → IsField (number w)
number_field {w} wide = is_field (number_bytes w) (λ n. n < limit w) (number_at w) (number_found w wide) (number_finds w wide) (number_begins w)

pub number_exact : {w : Width} → IsWide w → IsExact (number w)
number_exact wide = (number_field wide).exact

-- ---- fields that stand for values

-- what a table or a test owes: what it gives is allowed and written so, and what is allowed is written and given again
pub record IsDecoded {N A : Type 0} (f : Format N) (Allowed : A → Type 0) (decode : N → Option A) (code : A → N) : Type 0 where
  pub gives : (n : N) (a : A) → f.Allowed n → decode n ≡ Some a → Allowed a × (code a ≡ n)
  pub again : (a : A) → Allowed a → f.Allowed (code a) × (decode (code a) ≡ Some a)

some_is : {A : Type 0} (o : Option A) (at m after : ℕ) (a : A) → stood_for at m o ≡ Ok (a, after) → (o ≡ Some a) × (m ≡ after)
some_is (Some b) at m after a e =
    let same = ok_parts b a m after e in
    (ap Some same.0, same.1)
some_is None at m after a e = absurd cc

none_is : {A : Type 0} (o : Option A) (at m offset : ℕ) → stood_for at m o ≡ Err offset → offset ≡ at
none_is (Some b) at m offset e = absurd cc
none_is None at m offset e = cc

decoded_from : {N A : Type 0} (f : Format N) (Allowed : A → Type 0) (decode : N → Option A) (code : A → N) → IsDecoded f Allowed decode code
    → (bytes : List ℕ) (at : ℕ) (a : A) (after : ℕ) (r : Result (N × ℕ) ℕ) → ((n : N) (m : ℕ) → r ≡ Ok (n, m) → SpelledAt f.spelling f.Allowed bytes at n m)
    → decode_read decode at r ≡ Ok (a, after) → SpelledAt (λ x. f.spelling (code x)) Allowed bytes at a after
decoded_from f Allowed decode code is bytes at a after (Ok r) spelled e =
    let s = spelled r.0 r.1 refl in
    let o = some_is (decode r.0) at r.1 after a e in
    let g = is.gives r.0 a s.allowed o.0 in
    record { allowed = g.0; here = rw (g.1, ← o.1) s.here; ends = rw (g.1, ← o.1) s.ends; within = rw (← o.1) s.within }
decoded_from f Allowed decode code is bytes at a after (Err p) spelled e = absurd cc

abbrev as_err : {V : Type 0} → ℕ → Result V ℕ
as_err p = Err p

decoded_begins : {N A : Type 0} (decode : N → Option A) (at offset : ℕ) (r : Result (N × ℕ) ℕ) → ((p : ℕ) → r ≡ Err p → p ≡ at) → decode_read decode at r ≡ Err offset → offset ≡ at
decoded_begins decode at offset (Ok r) begins e = none_is (decode r.0) at r.1 offset e
decoded_begins {N} decode at offset (Err p) begins e =
    let same : p ≡ offset = cc in
    begins offset (ap (λ (k : ℕ). as_err {V = N × ℕ} k) same)

pub decoded_field : {N A : Type 0} {f : Format N} {Allowed : A → Type 0} {decode : N → Option A} {code : A → N} → IsField f → IsDecoded f Allowed decode code → IsField (decoded f code Allowed decode)
decoded_field {f} {Allowed} {decode} {code} field is =
    is_field (λ x. f.spelling (code x)) Allowed (λ bytes at. decode_read decode at (f.reads bytes at))
    (λ bytes at a after p e. decoded_from f Allowed decode code is bytes at a after (f.reads bytes at) (λ n m. field.exact.found bytes at n m p) e)
    (λ bytes at a after p s. (
    let again = is.again a s.allowed in
    let under : SpelledAt f.spelling f.Allowed bytes at (code a) after = record { allowed = again.0; here = s.here; ends = s.ends; within = s.within } in
    rw (field.exact.finds bytes at (code a) after p under, again.1) refl))
    (λ bytes at offset e. decoded_begins decode at offset (f.reads bytes at) (field.begins bytes at) e)

-- ---- numbers in a range

in_range_gives : (least most n a : ℕ) → in_range least most n ≡ Some a → ((least ≤ a) × (a ≤ most)) × (a ≡ n)
in_range_gives least most n a e =
    range_cases least most n a (ltb n least) (ltb most n) refl refl e
  where
    range_cases : (least most n a : ℕ) (low high : Bool) → ltb n least ≡ low → ltb most n ≡ high → cond low None (cond high None (Some n)) ≡ Some a → ((least ≤ a) × (a ≤ most)) × (a ≡ n)
    range_cases least most n a true high l h e = absurd cc
    range_cases least most n a false true l h e = absurd cc
    range_cases least most n a false false l h e =
        let same : n ≡ a = cc in
        rw (← same) ((ltb-false _ _ l, ltb-false _ _ h), refl)

-- what is in the range is given again
pub in_range_again : (least most n : ℕ) → least ≤ n → n ≤ most → in_range least most n ≡ Some n
in_range_again least most n low high = rw (le-ltb n least low, le-ltb most n high) refl

pub between_field : {w : Width} {least most : ℕ} → IsWide w → most < limit w → IsField (between w least most)
between_field {w} {least} {most} wide lt = decoded_field (number_field wide) (record {
  gives = λ n a h e. in_range_gives least most n a e;
  again = λ a h. (omega arith, in_range_again least most a h.0 h.1);
})

pub between_exact : {w : Width} {least most : ℕ} → IsWide w → most < limit w → IsExact (between w least most)
between_exact wide lt = (between_field wide lt).exact

-- ---- tables

-- each row is the one that is written for its value, and its number is one of the width
abbrev pub IsRow : {A : Type 0} → Width → (A → ℕ) → ℕ × A → Type 0
IsRow w code row = (code row.1 ≡ row.0) × (ltb row.0 (limit w) ≡ true)

row_cases : {A : Type 0} (w : Width) (code : A → ℕ) (row : ℕ × A) (n : ℕ) (a : A) (other : Option A) → IsRow w code row → (other ≡ Some a → (code a ≡ n) × (n < limit w))
    → (same : Bool) → (n == row.0) ≡ same → cond same (Some row.1) other ≡ Some a → (code a ≡ n) × (n < limit w)
row_cases w code row n a other is others true t e =
    let same : row.1 ≡ a = cc in
    let n-is : n ≡ row.0 = eqb-true _ _ t in
    rw (← same, n-is) (is.0, ltb-true _ _ is.1)
row_cases w code row n a other is others false t e = others e

rows_give : {A : Type 0} (w : Width) (code : A → ℕ) (rows : List (ℕ × A)) (n : ℕ) (a : A) → AllByRecursion (IsRow w code) rows → row_of rows n ≡ Some a → (code a ≡ n) × (n < limit w)
rows_give w code [] n a is e = absurd cc
rows_give w code (row ∷ rows) n a is e = row_cases w code row n a (row_of rows n) is.0 (λ d. rows_give w code rows n a is.1 d) (n == row.0) refl e

-- what a table owes: its rows, and that each value has one
pub record IsTable {A : Type 0} (w : Width) (rows : List (ℕ × A)) (code : A → ℕ) : Type 0 where
  pub rows_are : AllByRecursion (IsRow w code) rows
  pub back : (a : A) → row_of rows (code a) ≡ Some a

pub table_field : {A : Type 0} {w : Width} {rows : List (ℕ × A)} {code : A → ℕ} → IsWide w → IsTable w rows code → IsField (table w rows code)
table_field {A} {w} {rows} {code} wide is = decoded_field (number_field wide) (record {
  gives = λ n a h e. (tt, (rows_give w code rows n a is.rows_are e).0);
  again = λ a h. ((rows_give w code rows (code a) a is.rows_are (is.back a)).1, is.back a);
})

pub table_exact : {A : Type 0} {w : Width} {rows : List (ℕ × A)} {code : A → ℕ} → IsWide w → IsTable w rows code → IsExact (table w rows code)
table_exact wide is = (table_field wide is).exact

-- what the rows of a table owe, where some values may have none
pub record IsList {A : Type 0} (w : Width) (rows : List (ℕ × A)) (code : A → ℕ) : Type 0 where
  pub rows_are : AllByRecursion (IsRow w code) rows

pub listed_field : {A : Type 0} {w : Width} {rows : List (ℕ × A)} {code : A → ℕ} → IsWide w → IsList w rows code → IsField (listed w rows code)
listed_field {A} {w} {rows} {code} wide is = decoded_field (number_field wide) (record {
  gives = λ n a h e. (
      let code-is = (rows_give w code rows n a is.rows_are e).0 in
      (ap (row_of rows) code-is ∙ e, code-is));
  again = λ a h. ((rows_give w code rows (code a) a is.rows_are h).1, h);
})

pub listed_exact : {A : Type 0} {w : Width} {rows : List (ℕ × A)} {code : A → ℕ} → IsWide w → IsList w rows code → IsExact (listed w rows code)
listed_exact wide is = (listed_field wide is).exact

-- ---- bytes that meet a test

test_gives : (test : List ℕ → Bool) (n a : List ℕ) (met : Bool) → test n ≡ met → cond met (Some n) None ≡ Some a → IsTrue (test a) × (a ≡ n)
test_gives test n a true t e =
    let same : n ≡ a = cc in
    rw (← same) (t, refl)
test_gives test n a false t e = absurd cc

test_again : (test : List ℕ → Bool) (a : List ℕ) (met : Bool) → test a ≡ met → IsTrue met → cond met (Some a) None ≡ Some a
test_again test a true t h = refl
test_again test a false t h = absurd cc

pub raw_that_field : {test : List ℕ → Bool} {n : ℕ} → IsField (raw_that test n)
raw_that_field {test} {n} = decoded_field (raw_field n) (record {
  gives = λ m a len e. (let g = test_gives test m a (test m) refl e in ((rw g.1 len, g.0), g.1));
  again = λ a h. (h.0, test_again test a (test a) refl h.1);
})

pub raw_that_exact : {test : List ℕ → Bool} {n : ℕ} → IsExact (raw_that test n)
raw_that_exact = raw_that_field.exact

-- ---- marks

pub same_bytes-true : (xs ys : List ℕ) → same_bytes xs ys ≡ true → xs ≡ ys
same_bytes-true [] [] e = refl
same_bytes-true [] (y ∷ ys) e = absurd cc
same_bytes-true (x ∷ xs) [] e = absurd cc
same_bytes-true (x ∷ xs) (y ∷ ys) e = cons_same x y xs ys (x == y) refl e (same_bytes-true xs ys)
  where
    cons_same : (x y : ℕ) (xs ys : List ℕ) (same : Bool) → (x == y) ≡ same → cond same (same_bytes xs ys) false ≡ true → (same_bytes xs ys ≡ true → xs ≡ ys) → x ∷ xs ≡ y ∷ ys
    cons_same x y xs ys true t e others = cc (eqb-true x y t, others e)
    cons_same x y xs ys false t e others = absurd cc

pub same_bytes-refl : (xs : List ℕ) → same_bytes xs xs ≡ true
same_bytes-refl [] = refl
same_bytes-refl (x ∷ xs) = rw (eq-eqb x x refl, same_bytes-refl xs) refl

mark_gives : (word bytes : List ℕ) (u : Unit {0}) (same : Bool) → same_bytes word bytes ≡ same → cond same (Some tt) None ≡ Some u → word ≡ bytes
mark_gives word bytes u true t e = same_bytes-true word bytes t
mark_gives word bytes u false t e = absurd cc

pub mark_field : {word : List ℕ} → IsField (mark word)
mark_field {word} = decoded_field (raw_field (length word)) (record {
  gives = λ m u len e. (tt, mark_gives word m u (same_bytes word m) refl e);
  again = λ u h. (refl, rw (same_bytes-refl word) refl);
})

pub mark_exact : {word : List ℕ} → IsExact (mark word)
mark_exact = mark_field.exact

-- ---- no bytes

pub nothing_exact : {A : Type 0} {a : A} → IsExact (nothing a)
nothing_exact {A} {a} = record {
  found = λ bytes at b after p e. (
      let same = ok_parts a b at after e in
      record { allowed = sym same.0; here = rw (← same.1) refl; ends = omega (arith, same.1); within = rw (← same.1) p.within });
  finds = λ bytes at b after p s. (
      let end : after ≡ at = omega arith in
      rw (s.allowed, end) refl);
  fails = λ bytes at offset p e. absurd cc;
  failed = λ bytes at offset p h. absurd h;
}
