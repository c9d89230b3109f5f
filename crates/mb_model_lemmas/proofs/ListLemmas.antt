-- Lists: what is found in one, what holds of its parts where it holds of the whole, and what begins with what.
use Rattle.std.proofs.Common.{◌≡◌, ◌≤◌, zero, suc, List, [], ◌∷◌, ◌++◌, map, length, Some, Bool, true, false, cond, refl, sym, ap, subst, ◌∙◌, arith, length-append}
use Rattle.std.specs.Prelude.{find, All, AllPairs, Contains}
use Rattle.std.proofs.lemmas.List.Elements.{All-nil, All-cons, All-head, All-tail, All-append, All-contains, Contains-append_right}
use Rattle.std.proofs.lemmas.List.Kept.{AllPairs-cons}
use Rattle.mb_model_lemmas.proofs.LineLemmas.{cons_same}

-- ---- what is in a list

pub contains_none : {X : Type 0} (x : X) → Contains [] x → ⊥
contains_none x within = omega (arith, within.1)

pub not_first : {X : Type 0} (before : List X) (x : X) (more : List X) → before ++ x ∷ more ≡ [] → ⊥
not_first before x more e = omega (arith, ap length e, length-append before (x ∷ more))

-- what is found is in the list, and passes
pub found_is : {X : Type 0} (p : X → Bool) (xs : List X) (x : X) → find p xs ≡ Some x → Contains xs x × (p x ≡ true)
found_is p [] x e = absurd (grind (arith, e))
found_is {X} p (y ∷ ys) x e = by (p y) refl e (found_is p ys x)
  where
    by : (b : Bool) → p y ≡ b → cond b (Some y) (find p ys) ≡ Some x → (find p ys ≡ Some x → Contains ys x × (p x ≡ true)) → Contains (y ∷ ys) x × (p x ≡ true)
    by true is e more =
        let same : y ≡ x = cc in
        ((0, omega arith, cc), subst (λ z. p z ≡ true) same is)
    by false is e more =
        let at = more e in
        ((suc at.0.0, omega (arith, at.0.1), at.0.2), at.1)

-- ---- what holds of each

pub All-back : {X : Type 0} (P : X → Type 0) (xs ys : List X) → All P (xs ++ ys) → All P ys
All-back P [] ys all = all
All-back P (x ∷ xs) ys all = All-back P xs ys (All-tail P x (xs ++ ys) all)

pub All-front : {X : Type 0} (P : X → Type 0) (xs ys : List X) → All P (xs ++ ys) → All P xs
All-front P [] ys all = All-nil P
All-front P (x ∷ xs) ys all = All-cons P x xs (All-head P x (xs ++ ys) all) (All-front P xs ys (All-tail P x (xs ++ ys) all))

pub All-without : {X : Type 0} (P : X → Type 0) (xs gap ys : List X) → All P (xs ++ gap ++ ys) → All P (xs ++ ys)
All-without P xs gap ys all = All-append P xs ys (All-front P xs gap (All-front P (xs ++ gap) ys all)) (All-back P (xs ++ gap) ys all)

pub All-unmap : {X Y : Type 0} (P : Y → Type 0) (f : X → Y) (xs : List X) → All P (map f xs) → All (λ x. P (f x)) xs
All-unmap P f [] all = All-nil (λ x. P (f x))
All-unmap P f (x ∷ xs) all = All-cons (λ y. P (f y)) x xs (All-head P (f x) (map f xs) all) (All-unmap P f xs (All-tail P (f x) (map f xs) all))

-- ---- what holds of each and each after it

pub pairs_head : {X : Type 0} (R : X → X → Type 0) (x : X) (xs : List X) → AllPairs R (x ∷ xs) → All (R x) xs
pairs_head R x xs pairs = λ k d within. pairs zero (suc k) d (omega arith) (omega arith)

pub pairs_tail : {X : Type 0} (R : X → X → Type 0) (x : X) (xs : List X) → AllPairs R (x ∷ xs) → AllPairs R xs
pairs_tail R x xs pairs = λ i j d less within. pairs (suc i) (suc j) d (omega arith) (omega arith)

pub pairs_back : {X : Type 0} (R : X → X → Type 0) (xs ys : List X) → AllPairs R (xs ++ ys) → AllPairs R ys
pairs_back R [] ys all = all
pairs_back R (x ∷ xs) ys all = pairs_back R xs ys (pairs_tail R x (xs ++ ys) all)

pub pairs_without : {X : Type 0} (R : X → X → Type 0) (xs gap ys : List X) → AllPairs R (xs ++ gap ++ ys) → AllPairs R (xs ++ ys)
pairs_without R [] gap ys all = pairs_back R gap ys all
pairs_without R (x ∷ xs) gap ys all =
    AllPairs-cons R x (xs ++ ys) (All-without (R x) xs gap ys (pairs_head R x (xs ++ gap ++ ys) all)) (pairs_without R xs gap ys (pairs_tail R x (xs ++ gap ++ ys) all))

pub AllPairs-unmap : {X Y : Type 0} (R : Y → Y → Type 0) (f : X → Y) (xs : List X) → AllPairs R (map f xs) → AllPairs (λ a b. R (f a) (f b)) xs
AllPairs-unmap R f [] pairs = λ i j d less within. absurd (omega (arith, within))
AllPairs-unmap R f (x ∷ xs) pairs =
    AllPairs-cons (λ a b. R (f a) (f b)) x xs
    (All-unmap (R (f x)) f xs (pairs_head R (f x) (map f xs) pairs))
    (AllPairs-unmap R f xs (pairs_tail R (f x) (map f xs) pairs))

-- each before an element of such a list goes before it, and it goes before each after it
pub pairs_before : {X : Type 0} (R : X → X → Type 0) (front : List X) (x : X) (rest : List X) → AllPairs R (front ++ x ∷ rest) → All (λ a. R a x) front
pairs_before R [] x rest pairs = All-nil (λ a. R a x)
pairs_before R (first ∷ front) x rest pairs =
    All-cons (λ a. R a x) first front
    (All-contains (R first) (front ++ x ∷ rest) x (pairs_head R first (front ++ x ∷ rest) pairs) (Contains-append_right front (x ∷ rest) x (0, omega arith, refl)))
    (pairs_before R front x rest (pairs_tail R first (front ++ x ∷ rest) pairs))

pub pairs_after : {X : Type 0} (R : X → X → Type 0) (front : List X) (x : X) (rest : List X) → AllPairs R (front ++ x ∷ rest) → All (R x) rest
pairs_after R [] x rest pairs = pairs_head R x rest pairs
pairs_after R (first ∷ front) x rest pairs = pairs_after R front x rest (pairs_tail R first (front ++ x ∷ rest) pairs)

-- ---- beginnings

-- of two fronts of a list the longer begins with the shorter
pub front_of : {X : Type 0} (a b x y : List X) → a ++ x ≡ b ++ y → length a ≤ length b → (more : List X) × (b ≡ a ++ more)
front_of [] b x y e long = (b, refl)
front_of (p ∷ a) [] x y e long = absurd (omega (arith, long))
front_of (p ∷ a) (q ∷ b) x y e long =
    let both = cons_same p q (a ++ x) (b ++ y) e in
    let more = front_of a b x y both.1 (omega (arith, long)) in
    (more.0, ap (λ h. h ∷ b) (sym both.0) ∙ ap (λ t. p ∷ t) more.1)
