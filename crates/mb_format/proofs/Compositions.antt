-- What is composed of formats that are read exactly is read exactly.
use Rattle.std.proofs.Common.{◌≡◌, ℕ, zero, suc, ◌+◌, ◌≤◌, Bool, true, false, List, [], ◌∷◌, ◌++◌, length, drop, Option, Some, None, Result, Ok, Err, refl, sym, ap, ◌∙◌, arith, append_assoc}
use Rattle.std.specs.Int.{w8}
use Rattle.std.specs.Option.{is_some}
use Rattle.std.specs.List.{flat_map, AllByRecursion}
use Rattle.std.proofs.lemmas.List.{drop_at, length-append, drop-drop}
use Rattle.mb_format.specs.Format.{IsOffset, SpelledAt, Format}
use Rattle.mb_format.specs.Combinators.{FailsInBoth, in_first, in_second, both, pair, spelling_of, AllowedOf, as_value, as_record, led, then_value, either, flag_rows, flag_byte, flag, present, optional, cons, uncons, items, times, sized, sized_that, counted, nothing, row_of}
use Rattle.mb_format.specs.Reading.{IsExact, with_first, then_read, into_read}
use Rattle.mb_format.proofs.Exact.{ok_parts, after_offset}
use Rattle.mb_format.proofs.Fields.{raw_exact, raw_that_exact, nothing_exact, table_exact, IsTable, wide8}

-- ---- one format after another

-- what is spelled one after the other is spelled at one offset
both_spelled : {A B : Type 0} (f : Format A) (g : A → Format B) (bytes : List ℕ) (at middle after : ℕ) (a : A) (b : B) → SpelledAt f.spelling f.Allowed bytes at a middle → SpelledAt (g a).spelling (g a).Allowed bytes middle b after
    → SpelledAt (both f g).spelling (both f g).Allowed bytes at (a, b) after
both_spelled f g bytes at middle after a b s t = record {
  allowed = (s.allowed, t.allowed);
  here = s.here ∙ ap (λ (rest : List ℕ). f.spelling a ++ rest) t.here ∙ sym (append_assoc (f.spelling a) ((g a).spelling b) (drop after bytes));
  ends = omega (arith, length-append (f.spelling a) ((g a).spelling b));
  within = t.within;
}

-- and the other way round
first_spelled : {A B : Type 0} (f : Format A) (g : A → Format B) (bytes : List ℕ) (at after : ℕ) (p : A × B) → SpelledAt (both f g).spelling (both f g).Allowed bytes at p after
    → SpelledAt f.spelling f.Allowed bytes at p.0 (at + length (f.spelling p.0)) × SpelledAt (g p.0).spelling (g p.0).Allowed bytes (at + length (f.spelling p.0)) p.1 after
first_spelled f g bytes at after p s =
    let flat = s.here ∙ append_assoc (f.spelling p.0) ((g p.0).spelling p.1) (drop after bytes) in
    let rest : drop (at + length (f.spelling p.0)) bytes ≡ (g p.0).spelling p.1 ++ drop after bytes =
    sym (drop-drop (length (f.spelling p.0)) at bytes) ∙ ap (drop (length (f.spelling p.0))) flat ∙ drop_at (f.spelling p.0) ((g p.0).spelling p.1 ++ drop after bytes) (length (f.spelling p.0)) refl in
    let len = length-append (f.spelling p.0) ((g p.0).spelling p.1) in (
      record { allowed = s.allowed.0; here = rw rest flat; ends = refl; within = omega arith },
      record { allowed = s.allowed.1; here = rest; ends = omega arith; within = s.within },
    )

both_found : {A B : Type 0} (f : Format A) (g : A → Format B) → ((a : A) → f.Allowed a → IsExact (g a)) → (bytes : List ℕ) (at : ℕ) (p : A × B) (after : ℕ) → IsOffset bytes at
    → (r : Result (A × ℕ) ℕ) → ((a : A) (m : ℕ) → r ≡ Ok (a, m) → SpelledAt f.spelling f.Allowed bytes at a m)
    → then_read r (λ a middle. (g a).reads bytes middle) ≡ Ok (p, after) → SpelledAt (both f g).spelling (both f g).Allowed bytes at p after
both_found f g exact bytes at p after offset (Err q) first e = absurd cc
both_found {A} {B} f g exact bytes at p after offset (Ok r) first e =
    let s = first r.0 r.1 refl in
    let following = exact r.0 s.allowed in
    second ((g r.0).reads bytes r.1) (λ b m. following.found bytes r.1 b m (after_offset f.spelling f.Allowed bytes at r.0 r.1 offset s)) s e
  where
    second : (t : Result (B × ℕ) ℕ) → ((b : B) (m : ℕ) → t ≡ Ok (b, m) → SpelledAt (g r.0).spelling (g r.0).Allowed bytes r.1 b m) → SpelledAt f.spelling f.Allowed bytes at r.0 r.1
        → with_first r.0 t ≡ Ok (p, after) → SpelledAt (both f g).spelling (both f g).Allowed bytes at p after
    second (Err q) found s e = absurd cc
    second (Ok t) found s e =
        let same = ok_parts {A = A × B} (r.0, t.0) p t.1 after e in
        rw (← same.0, ← same.1) (both_spelled f g bytes at r.1 t.1 r.0 t.0 s (found t.0 t.1 refl))

both_fails : {A B : Type 0} (f : Format A) (g : A → Format B) → ((a : A) → f.Allowed a → IsExact (g a)) → (bytes : List ℕ) (at q : ℕ) → IsOffset bytes at
    → (r : Result (A × ℕ) ℕ) → ((a : A) (m : ℕ) → r ≡ Ok (a, m) → SpelledAt f.spelling f.Allowed bytes at a m) → ((p : ℕ) → r ≡ Err p → f.FailsAt bytes at p)
    → then_read r (λ a middle. (g a).reads bytes middle) ≡ Err q → FailsInBoth f g bytes at q
both_fails f g exact bytes at q offset (Err p) first fails e =
    let same : p ≡ q = cc in
    in_first (rw (← same) (fails p refl))
both_fails {A} {B} f g exact bytes at q offset (Ok r) first fails e =
    let s = first r.0 r.1 refl in
    second ((g r.0).reads bytes r.1) ((exact r.0 s.allowed).fails bytes r.1 q (after_offset f.spelling f.Allowed bytes at r.0 r.1 offset s)) s e
  where
    second : (t : Result (B × ℕ) ℕ) → (t ≡ Err q → (g r.0).FailsAt bytes r.1 q) → SpelledAt f.spelling f.Allowed bytes at r.0 r.1
        → with_first r.0 t ≡ Err q → FailsInBoth f g bytes at q
    second (Err p) found s e =
        let same : p ≡ q = cc in
        in_second r.0 r.1 s (found (ap Err same))
    second (Ok t) found s e = absurd cc

both_failed : {A B : Type 0} (f : Format A) (g : A → Format B) → IsExact f → ((a : A) → f.Allowed a → IsExact (g a)) → (bytes : List ℕ) (at q : ℕ) → IsOffset bytes at
    → FailsInBoth f g bytes at q → then_read (f.reads bytes at) (λ a middle. (g a).reads bytes middle) ≡ Err q
both_failed f g exact following bytes at q offset (in_first h) = rw (exact.failed bytes at q offset h) refl
both_failed f g exact following bytes at q offset (in_second a middle s h) =
    let e = exact.finds bytes at a middle offset s in
    let d = (following a s.allowed).failed bytes middle q (after_offset f.spelling f.Allowed bytes at a middle offset s) h in
    rw (e, d) refl

both_finds : {A B : Type 0} (f : Format A) (g : A → Format B) → IsExact f → ((a : A) → f.Allowed a → IsExact (g a)) → (bytes : List ℕ) (at : ℕ) (p : A × B) (after : ℕ) → IsOffset bytes at
    → SpelledAt (both f g).spelling (both f g).Allowed bytes at p after → then_read (f.reads bytes at) (λ a middle. (g a).reads bytes middle) ≡ Ok (p, after)
both_finds f g exact following bytes at p after offset s =
    let parts = first_spelled f g bytes at after p s in
    let e = exact.finds bytes at p.0 (at + length (f.spelling p.0)) offset parts.0 in
    let d = (following p.0 s.allowed.0).finds bytes (at + length (f.spelling p.0)) p.1 after (after_offset f.spelling f.Allowed bytes at p.0 (at + length (f.spelling p.0)) offset parts.0) parts.1 in
    rw (e, d) refl

pub both_exact : {A B : Type 0} {f : Format A} {g : A → Format B} → IsExact f → ((a : A) → f.Allowed a → IsExact (g a)) → IsExact (both f g)
both_exact {A} {B} {f} {g} exact following = record {
  found = λ bytes at p after offset e. both_found f g following bytes at p after offset (f.reads bytes at) (λ a m. exact.found bytes at a m offset) e;
  finds = both_finds f g exact following;
  fails = λ bytes at q offset e. both_fails f g following bytes at q offset (f.reads bytes at) (λ a m. exact.found bytes at a m offset) (λ p. exact.fails bytes at p offset) e;
  failed = both_failed f g exact following;
}

pub pair_exact : {A B : Type 0} {f : Format A} {g : Format B} → IsExact f → IsExact g → IsExact (pair f g)
pair_exact exact following = both_exact exact (λ a h. following)

-- ---- values made of what was read

value_found : {A B : Type 0} (f : Format A) (into : A → B) (out : B → Option A) → ((a : A) → f.Allowed a → out (into a) ≡ Some a) → (bytes : List ℕ) (at : ℕ) (b : B) (after : ℕ)
    → (r : Result (A × ℕ) ℕ) → ((a : A) (m : ℕ) → r ≡ Ok (a, m) → SpelledAt f.spelling f.Allowed bytes at a m)
    → into_read into r ≡ Ok (b, after) → SpelledAt (as_value f into out).spelling (as_value f into out).Allowed bytes at b after
value_found f into out again bytes at b after (Err p) spelled e = absurd cc
value_found f into out again bytes at b after (Ok r) spelled e =
    let s = spelled r.0 r.1 refl in
    let o = again r.0 s.allowed in
    let same = ok_parts (into r.0) b r.1 after e in
    rw (← same.0, ← same.1) (record { allowed = rw o s.allowed; here = rw o s.here; ends = rw o s.ends; within = s.within })

value_finds : {A B : Type 0} (f : Format A) (into : A → B) (out : B → Option A) → IsExact f → (bytes : List ℕ) (at : ℕ) (b : B) (after : ℕ) → IsOffset bytes at
    → (o : Option A) → ((a : A) → o ≡ Some a → into a ≡ b) → AllowedOf f o → drop at bytes ≡ spelling_of f o ++ drop after bytes → after ≡ at + length (spelling_of f o) → after ≤ length bytes
    → into_read into (f.reads bytes at) ≡ Ok (b, after)
value_finds f into out exact bytes at b after offset (Some a) only allowed here ends within =
    let e = exact.finds bytes at a after offset (record { allowed = allowed; here = here; ends = ends; within = within }) in
    rw (e, only a refl) refl
value_finds f into out exact bytes at b after offset None only allowed here ends within = absurd allowed

into_failed : {A B : Type 0} (into : A → B) (offset : ℕ) (r : Result (A × ℕ) ℕ) → into_read into r ≡ Err offset → r ≡ Err offset
into_failed into offset (Ok r) e = absurd cc
into_failed {A} into offset (Err p) e =
    let same : p ≡ offset = cc in
    ap Err same

pub as_value_exact : {A B : Type 0} {f : Format A} {into : A → B} {out : B → Option A} → IsExact f → ((a : A) → f.Allowed a → out (into a) ≡ Some a) → ((b : B) (a : A) → out b ≡ Some a → into a ≡ b) → IsExact (as_value f into out)
as_value_exact {A} {B} {f} {into} {out} exact again only = record {
  found = λ bytes at b after offset e. value_found f into out again bytes at b after (f.reads bytes at) (λ a m. exact.found bytes at a m offset) e;
  finds = λ bytes at b after offset s. value_finds f into out exact bytes at b after offset (out b) (only b) s.allowed s.here s.ends s.within;
  fails = λ bytes at q offset e. exact.fails bytes at q offset (into_failed into q (f.reads bytes at) e);
  failed = λ bytes at q offset h. rw (exact.failed bytes at q offset h) refl;
}

record_only : {A B : Type 0} (into : A → B) (parts : B → A) → ((b : B) → into (parts b) ≡ b) → (b : B) (a : A) → ◌≡◌ {A = Option A} (Some (parts b)) (Some a) → into a ≡ b
record_only into parts whole b a e =
    let same : parts b ≡ a = cc in
    ap into (sym same) ∙ whole b

pub as_record_exact : {A B : Type 0} {f : Format A} (into : A → B) (parts : B → A) → IsExact f → ((a : A) → f.Allowed a → parts (into a) ≡ a) → ((b : B) → into (parts b) ≡ b) → IsExact (as_record f into parts)
as_record_exact {A} {B} {f} into parts exact again whole =
    as_value_exact {f = f} {into = into} {out = λ b. Some (parts b)} exact (λ a h. ap Some (again a h)) (record_only into parts whole)

pub led_exact : {K B : Type 0} {f : Format K} {key : B → K} {g : K → Format B} → IsExact f → ((k : K) → f.Allowed k → IsExact (g k)) → ((k : K) (b : B) → f.Allowed k → (g k).Allowed b → key b ≡ k) → IsExact (led f key g)
led_exact {K} {B} {f} {key} {g} exact following keyed =
    as_record_exact {f = both f g} (λ p. p.1) (λ b. (key b, b)) (both_exact exact following) (λ p h. ap (λ (k : K). (k, p.1)) (keyed p.0 p.1 h.0 h.1)) (λ b. refl)

pub then_value_exact : {B : Type 0} {f : Format (Unit {0})} {g : Format B} → IsExact f → IsExact g → IsExact (then_value f g)
then_value_exact {B} {f} {g} exact following =
    as_record_exact {f = pair f g} (λ p. p.1) (λ b. (tt, b)) (pair_exact exact following) (λ p h. refl) (λ b. refl)

-- ---- choices and options

pub either_exact : {A : Type 0} {f g : Format A} (b : Bool) → IsExact f → IsExact g → IsExact (either b f g)
either_exact true one other = one
either_exact false one other = other

pub flag_table : IsTable w8 flag_rows flag_byte
flag_table = record { rows_are = ((refl, refl), ((refl, refl), tt)); back = flag_back }
  where
    flag_back : (b : Bool) → row_of flag_rows (flag_byte b) ≡ Some b
    flag_back false = refl
    flag_back true = refl

pub flag_exact : IsExact flag
flag_exact = table_exact wide8 flag_table

pub present_exact : {A : Type 0} {f : Format A} → IsExact f → IsExact (present f)
present_exact {A} {f} exact = as_value_exact {f = f} {into = Some} {out = λ o. o} exact (λ a h. refl) (λ b a e. sym e)

there : {A : Type 0} (f : Format A) (k : Bool) (o : Option A) → (either k (present f) (nothing None)).Allowed o → is_some o ≡ k
there f true (Some a) h = refl
there f true None h = absurd h
there f false o h = rw h refl

pub optional_exact : {A : Type 0} {f : Format A} → IsExact f → IsExact (optional f)
optional_exact {A} {f} exact = led_exact flag_exact (λ k h. either_exact k (present_exact exact) nothing_exact) (λ k o h g. there f k o g)

-- ---- lists

cons_only : {A : Type 0} (xs : List A) (p : A × List A) → uncons xs ≡ Some p → cons p ≡ xs
cons_only [] p e = absurd cc
cons_only {A} (x ∷ xs) p e =
    let same : ◌≡◌ {A = A × List A} (x, xs) p = cc in
    rw (← same) refl

items_each : {A S : Type 0} (item : S → Format A) (next : S → A → S) → ((s : S) → IsExact (item s)) → (n : ℕ) (state : S) → IsExact (items item next n state)
unfolding items
items_each item next exact zero state = nothing_exact
items_each item next exact (suc n) state = as_value_exact {f = both (item state) (λ a. items item next n (next state a))} {into = cons} {out = uncons}
    (both_exact (exact state) (λ a h. items_each item next exact n (next state a))) (λ a h. refl) cons_only

pub items_exact : {A S : Type 0} {item : S → Format A} (next : S → A → S) (n : ℕ) (state : S) → ((s : S) → IsExact (item s)) → IsExact (items item next n state)
items_exact {item} next n state exact = items_each item next exact n state

-- as many as were announced
pub items_length : {A S : Type 0} (item : S → Format A) (next : S → A → S) (n : ℕ) (state : S) (xs : List A) → (items item next n state).Allowed xs → length xs ≡ n
unfolding items
items_length item next zero state xs h = rw h refl
items_length item next (suc n) state [] h = absurd h
items_length item next (suc n) state (x ∷ xs) h = ap suc (items_length item next n (next state x) xs h.1)

pub times_exact : {A : Type 0} {item : Format A} (n : ℕ) → IsExact item → IsExact (times n item)
times_exact {A} {item} n exact = items_exact {item = λ (u : Unit {0}). item} (λ u a. u) n tt (λ u. exact)

-- allowed items of one format are a list of the length with each allowed
pub items_all : {A : Type 0} (item : Format A) (n : ℕ) (xs : List A) → (times n item).Allowed xs → (length xs ≡ n) × AllByRecursion item.Allowed xs
unfolding items
items_all item zero xs h = rw h (refl, tt)
items_all item (suc n) [] h = absurd h
items_all item (suc n) (x ∷ xs) h =
    let rest = items_all item n xs h.1 in
    (ap suc rest.0, (h.0, rest.1))

pub all_items : {A : Type 0} (item : Format A) (n : ℕ) (xs : List A) → length xs ≡ n → AllByRecursion item.Allowed xs → (times n item).Allowed xs
unfolding items
all_items item zero [] len all = refl
all_items item zero (x ∷ xs) len all = absurd (omega arith)
all_items item (suc n) [] len all = absurd (omega arith)
all_items item (suc n) (x ∷ xs) len all = (all.0, all_items item n xs (omega arith) all.1)

-- the spelling of items is the spellings of each in turn, where none depends on the state
pub items_spelling : {A S : Type 0} (item : S → Format A) (next : S → A → S) (n : ℕ) (state : S) (spelling : A → List ℕ) (xs : List A) → ((s : S) (a : A) → (item s).spelling a ≡ spelling a) → length xs ≡ n
    → (items item next n state).spelling xs ≡ flat_map spelling xs
unfolding items
items_spelling item next zero state spelling [] same len = refl
items_spelling item next zero state spelling (x ∷ xs) same len = absurd (omega arith)
items_spelling item next (suc n) state spelling [] same len = absurd (omega arith)
items_spelling item next (suc n) state spelling (x ∷ xs) same len =
    ap (λ (first : List ℕ). first ++ (items item next n (next state x)).spelling xs) (same state x)
    ∙ ap (λ (rest : List ℕ). spelling x ++ rest) (items_spelling item next n (next state x) spelling xs same (omega arith))

pub times_spelling : {A : Type 0} (item : Format A) (n : ℕ) (xs : List A) → length xs ≡ n → (times n item).spelling xs ≡ flat_map item.spelling xs
times_spelling item n xs len = items_spelling (λ (u : Unit {0}). item) (λ u a. u) n tt item.spelling xs (λ u a. refl) len

pub sized_exact : {f : Format ℕ} → IsExact f → IsExact (sized f)
sized_exact exact = led_exact exact (λ k h. raw_exact k) (λ k xs h g. g)

pub sized_that_exact : {f : Format ℕ} (test : List ℕ → Bool) → IsExact f → IsExact (sized_that test f)
sized_that_exact test exact = led_exact exact (λ k h. raw_that_exact {test = test}) (λ k xs h g. g.0)

pub counted_exact : {A : Type 0} {f : Format ℕ} {item : Format A} → IsExact f → IsExact item → IsExact (counted f item)
counted_exact {A} {f} {item} exact of_item = led_exact exact (λ k h. times_exact k of_item) (λ k xs h g. items_length (λ (u : Unit {0}). item) (λ u a. u) k tt xs g)
