-- Bytes that a format reads as a whole.
use Rattle.std.proofs.Common.{◌≡◌, ℕ, ◌+◌, ◌<◌, ◌≤◌, ◌⊎◌, inl, inr, Bool, true, false, cond, ltb, List, ◌++◌, length, take, Result, Ok, Err, refl, sym, ap, ◌∙◌, arith, append-nil}
use Rattle.std.proofs.lemmas.Bool.{cases_lt, ltb-true, ltb-false, lt-ltb, le-ltb}
use Rattle.std.proofs.lemmas.List.{length-take, drop_all}
use Rattle.mb_format.specs.Format.{IsBytes, IsOffset, SpelledAt, Format, Spells, FailsWhole, SpellsSomeWhole, FailsWholeSomewhere, IsClearWhole}
use Rattle.mb_format.specs.Reading.{IsExact, IsLocal, offset_of, all_read, reads_whole, IsExactWhole}

-- the beginning is an offset
pub at_start : (bytes : List ℕ) → IsBytes bytes → IsOffset bytes 0
at_start bytes h = record { are_bytes = h; within = omega arith }

-- what is spelled from the beginning to the end is the whole
pub whole_from : {A : Type 0} (f : Format A) (bytes : List ℕ) (a : A) (after : ℕ) → SpelledAt f.spelling f.Allowed bytes 0 a after → length bytes ≤ after → Spells f bytes a
whole_from f bytes a after s h =
    record { allowed = s.allowed; whole = s.here ∙ ap (λ (rest : List ℕ). f.spelling a ++ rest) (drop_all after bytes h) ∙ append-nil (f.spelling a) }

-- and the other way round
pub whole_spelled : {A : Type 0} (f : Format A) (bytes : List ℕ) (a : A) → Spells f bytes a → SpelledAt f.spelling f.Allowed bytes 0 a (length bytes)
whole_spelled f bytes a s = record {
  allowed = s.allowed;
  here = s.whole ∙ sym (ap (λ (rest : List ℕ). f.spelling a ++ rest) (drop_all (length bytes) bytes (omega arith)) ∙ append-nil (f.spelling a));
  ends = ap length s.whole ∙ omega arith;
  within = omega arith;
}

whole_found : {A : Type 0} (f : Format A) (bytes : List ℕ) (a : A) (r : Result (A × ℕ) ℕ) → ((b : A) (m : ℕ) → r ≡ Ok (b, m) → SpelledAt f.spelling f.Allowed bytes 0 b m)
    → all_read (length bytes) r ≡ Ok a → Spells f bytes a
whole_found f bytes a (Err p) spelled e = absurd cc
whole_found {A} f bytes a (Ok r) spelled e = to_end (ltb r.1 (length bytes)) refl e
  where
    to_end : (left : Bool) → ltb r.1 (length bytes) ≡ left → ◌≡◌ {A = Result A ℕ} (cond left (Err r.1) (Ok r.0)) (Ok a) → Spells f bytes a
    to_end true t e = absurd cc
    to_end false t e =
        let same : r.0 ≡ a = cc in
        rw (← same) (whole_from f bytes r.0 r.1 (spelled r.0 r.1 refl) (ltb-false _ _ t))

whole_fails : {A : Type 0} (f : Format A) (bytes : List ℕ) (offset : ℕ) (r : Result (A × ℕ) ℕ) → ((b : A) (m : ℕ) → r ≡ Ok (b, m) → SpelledAt f.spelling f.Allowed bytes 0 b m)
    → ((p : ℕ) → r ≡ Err p → f.FailsAt bytes 0 p) → all_read (length bytes) r ≡ Err offset → FailsWhole f bytes offset
whole_fails {A} f bytes offset (Err p) spelled fails e =
    let same : p ≡ offset = cc in
    inl (rw (← same) (fails p refl))
whole_fails {A} f bytes offset (Ok r) spelled fails e = left_over (ltb r.1 (length bytes)) refl e
  where
    left_over : (left : Bool) → ltb r.1 (length bytes) ≡ left → ◌≡◌ {A = Result A ℕ} (cond left (Err r.1) (Ok r.0)) (Err offset) → FailsWhole f bytes offset
    left_over true t e =
        let same : r.1 ≡ offset = cc in
        inr (rw (← same) (record { value = r.0; spelled = spelled r.0 r.1 refl; left = ltb-true _ _ t }))
    left_over false t e = absurd cc

whole_failed : {A : Type 0} (f : Format A) → IsExact f → (bytes : List ℕ) (offset : ℕ) → IsBytes bytes → FailsWhole f bytes offset → all_read (length bytes) (f.reads bytes 0) ≡ Err offset
whole_failed f exact bytes offset h (inl fails) = rw (exact.failed bytes 0 offset (at_start bytes h) fails) refl
whole_failed f exact bytes offset h (inr over) = rw (exact.finds bytes 0 over.value offset (at_start bytes h) over.spelled, lt-ltb _ _ over.left) refl

pub IsExactWhole-from_exact : {A : Type 0} {f : Format A} → IsExact f → IsExactWhole f
IsExactWhole-from_exact {A} {f} exact = record {
  found = λ bytes a h e. whole_found f bytes a (f.reads bytes 0) (λ b m. exact.found bytes 0 b m (at_start bytes h)) e;
  finds = λ bytes a h s. rw (exact.finds bytes 0 a (length bytes) (at_start bytes h) (whole_spelled f bytes a s), le-ltb (length bytes) (length bytes) (omega arith)) refl;
  fails = λ bytes offset h e. whole_fails f bytes offset (f.reads bytes 0) (λ b m. exact.found bytes 0 b m (at_start bytes h)) (λ p. exact.fails bytes 0 p (at_start bytes h)) e;
  failed = λ bytes offset h s. whole_failed f exact bytes offset h s;
}

outcome : {A : Type 0} (f : Format A) → IsExactWhole f → (bytes : List ℕ) → IsBytes bytes → (r : Result A ℕ) → reads_whole f bytes ≡ r → SpellsSomeWhole f bytes ⊎ FailsWholeSomewhere f bytes
outcome f exact bytes h (Ok a) e = inl (record { value = a; spelled = exact.found bytes a h e })
outcome f exact bytes h (Err offset) e = inr (record { offset = offset; fails = exact.fails bytes offset h e })

pub IsClearWhole-from_exact : {A : Type 0} {f : Format A} → IsExact f → IsClearWhole f
IsClearWhole-from_exact {A} {f} exact =
    let whole : IsExactWhole f = IsExactWhole-from_exact exact in
    record {
      one_value = λ bytes a b h s t. (let e = whole.finds bytes a h s in let d = whole.finds bytes b h t in cc);
      one_offset = λ bytes p q h s t. (let e = whole.failed bytes p h s in let d = whole.failed bytes q h t in cc);
      never_both = λ bytes a p h s t. (let e = whole.finds bytes a h s in let d = whole.failed bytes p h t in cc);
      always = λ bytes h. outcome f whole bytes h (reads_whole f bytes) refl;
    }

-- More bytes than a format can reach make no difference: the first m of them are read as the whole is.
pub reads_whole-cut : {A : Type 0} {f : Format A} {n : ℕ} → IsLocal f n → (bytes : List ℕ) (m : ℕ) → IsBytes bytes → n < m → reads_whole f (take m bytes) ≡ reads_whole f bytes
reads_whole-cut {A} {f} {n} is bytes m h lt =
    ap (all_read (length (take m bytes))) (is.same bytes 0 m (at_start bytes h) (omega arith)) ∙ as_long (f.reads bytes 0) (is.near bytes 0 (at_start bytes h))
  where
    same_test : (after : ℕ) → after ≤ 0 + n → ltb after (length (take m bytes)) ≡ ltb after (length bytes)
    same_test after le =
        elim (cases_lt after (length bytes)) [
          | inl below ↦ lt-ltb _ _ (omega (arith, length-take m bytes)) ∙ sym (lt-ltb _ _ below)
          | inr above ↦ le-ltb _ _ (omega (arith, length-take m bytes)) ∙ sym (le-ltb _ _ above)
        ]

    as_long : (r : Result (A × ℕ) ℕ) → offset_of r ≤ 0 + n → all_read (length (take m bytes)) r ≡ all_read (length bytes) r
    as_long (Ok r) le = rw (same_test r.1 le) refl
    as_long (Err p) le = refl

-- nor do such bytes fail further on
pub reads_whole-near : {A : Type 0} {f : Format A} {n : ℕ} → IsLocal f n → (bytes : List ℕ) (offset : ℕ) → IsBytes bytes → reads_whole f bytes ≡ Err offset → offset ≤ n
reads_whole-near {A} {f} {n} is bytes offset h e = near (f.reads bytes 0) (is.near bytes 0 (at_start bytes h)) e
  where
    near : (r : Result (A × ℕ) ℕ) → offset_of r ≤ 0 + n → all_read (length bytes) r ≡ Err offset → offset ≤ n
    near (Err p) le e =
        let same : p ≡ offset = cc in
        omega arith
    near (Ok r) le e = left_over (ltb r.1 (length bytes)) e
      where
        left_over : (left : Bool) → ◌≡◌ {A = Result A ℕ} (cond left (Err r.1) (Ok r.0)) (Err offset) → offset ≤ n
        left_over true e =
            let same : r.1 ≡ offset = cc in
            omega (arith, le)
        left_over false e = absurd cc
