-- What a reader of bytes works out step by step: a number or raw bytes at an offset, and one item of a list after the other.
use Rattle.std.proofs.Common.{◌≡◌, ℕ, suc, ◌+◌, ◌-◌, ◌<◌, ◌≤◌, List, [], ◌∷◌, ◌++◌, length, take, drop, Result, Ok, Err, refl, sym, ap, ◌∙◌, append_assoc, append-nil, arith}
use Rattle.std.proofs.lemmas.Bool.{lt-ltb, le-ltb}
use Rattle.mb_format.specs.Format.{Format}
use Rattle.mb_format.specs.Combinators.{cons, items}
use Rattle.mb_format.specs.Reading.{raw_at, into_read, with_first}

-- ---- fields

pub raw_at-short : (n : ℕ) (bytes : List ℕ) (at : ℕ) → length bytes < at + n → raw_at n bytes at ≡ Err at
unfolding raw_at
raw_at-short n bytes at h = rw (lt-ltb _ _ h) refl

pub raw_at-long : (n : ℕ) (bytes : List ℕ) (at : ℕ) → at + n ≤ length bytes → raw_at n bytes at ≡ Ok (take n (drop at bytes), at + n)
unfolding raw_at
raw_at-long n bytes at h = rw (le-ltb _ _ h) refl

-- ---- a loop over the items of a list

-- what was read with the items before it
abbrev pub with_front : {A : Type 0} → List A → Result (List A × ℕ) ℕ → Result (List A × ℕ) ℕ
with_front front (Ok r) = Ok (front ++ r.0, r.1)
with_front front (Err offset) = Err offset

-- Before the first item. A loop keeps `with_front` of the items read so far and of what reading the others gives, which
-- is what reading all of them gives.
pub items_begin : {A : Type 0} (r : Result (List A × ℕ) ℕ) → with_front [] r ≡ r
items_begin (Ok r) = refl
items_begin (Err offset) = refl

regroup : {A : Type 0} (front : List A) (a : A) (r : Result (List A × ℕ) ℕ) → with_front front (into_read cons (with_first a r)) ≡ with_front (front ++ a ∷ []) r
regroup front a (Ok r) = ap (λ xs. Ok (xs, r.1)) (sym (append_assoc front (a ∷ []) r.0))
regroup front a (Err offset) = refl

-- an item was read
pub items_more : {A S : Type 0} (item : S → Format A) (next : S → A → S) (n i : ℕ) (state : S) (front : List A) (bytes : List ℕ) (at : ℕ) (a : A) (after : ℕ) (total : Result (List A × ℕ) ℕ) → i < n
    → (item state).reads bytes at ≡ Ok (a, after) → with_front front ((items item next (n - i) state).reads bytes at) ≡ total
    → with_front (front ++ a ∷ []) ((items item next (n - (i + 1)) (next state a)).reads bytes after) ≡ total
unfolding items
items_more item next n i state front bytes at a after total lt e so_far =
    let k : n - i ≡ suc (n - (i + 1)) = omega arith in
    let one : with_front front ((items item next (n - i) state).reads bytes at) ≡ with_front (front ++ a ∷ []) ((items item next (n - (i + 1)) (next state a)).reads bytes after) =
    rw (k, e) (regroup front a ((items item next (n - (i + 1)) (next state a)).reads bytes after)) in
    sym one ∙ so_far

-- an item failed
pub items_fail : {A S : Type 0} (item : S → Format A) (next : S → A → S) (n i : ℕ) (state : S) (front : List A) (bytes : List ℕ) (at offset : ℕ) (total : Result (List A × ℕ) ℕ) → i < n
    → (item state).reads bytes at ≡ Err offset → with_front front ((items item next (n - i) state).reads bytes at) ≡ total → total ≡ Err offset
unfolding items
items_fail item next n i state front bytes at offset total lt e so_far =
    let k : n - i ≡ suc (n - (i + 1)) = omega arith in
    let one : with_front front ((items item next (n - i) state).reads bytes at) ≡ Err offset = rw (k, e) refl in
    sym so_far ∙ one

-- no item is left
pub items_end : {A S : Type 0} (item : S → Format A) (next : S → A → S) (n i : ℕ) (state : S) (front : List A) (bytes : List ℕ) (at : ℕ) (total : Result (List A × ℕ) ℕ) → n ≤ i
    → with_front front ((items item next (n - i) state).reads bytes at) ≡ total → total ≡ Ok (front, at)
unfolding items
items_end {A} item next n i state front bytes at total le so_far =
    let k : n - i ≡ 0 = omega arith in
    let one : with_front front ((items item next (n - i) state).reads bytes at) ≡ Ok (front, at) = rw k (ap (λ (xs : List A). Ok (xs, at)) (append-nil front)) in
    sym so_far ∙ one
