-- Places in lists, and answers of which at most one is given.
use Rattle.std.proofs.Common.{◌≡◌, ℕ, ◌+◌, Option, None, Some, List, [], ◌∷◌, ◌++◌, inl, inr, length, map, refl, sym, ap, subst, ◌∙◌, arith}
use Rattle.std.specs.Prelude.{◌⊎◌, All}
use Rattle.std.proofs.lemmas.List.Elements.{All-nil, All-cons, All-head, All-tail}
use Rattle.mb_model.specs.owners.Rules.{IsFirstFailing}
use Rattle.mb_model_lemmas.proofs.LineLemmas.{cons_same}

-- ---- values that may be missing

pub none_is_some : {X : Type 0} (o : Option X) (x : X) → o ≡ None → o ≡ Some x → ⊥
none_is_some o x none some = cc

-- ---- lists

-- what holds at each place of a list holds of all of it
pub All-from_splits : {X : Type 0} (P : X → Type 0) (xs : List X) → ((before : List X) (x : X) (rest : List X) → xs ≡ before ++ x ∷ rest → P x) → All P xs
All-from_splits P [] each = All-nil P
All-from_splits P (x ∷ xs) each =
    All-cons P x xs (each [] x xs refl)
    (All-from_splits P xs (λ before y rest split. each (x ∷ before) y rest (ap (λ ys. x ∷ ys) split)))

-- of two parts of a list, the first is as long as another first part: then both are
pub same_halves : {X : Type 0} (xs us ys vs : List X) → length xs ≡ length us → xs ++ ys ≡ us ++ vs → (xs ≡ us) × (ys ≡ vs)
same_halves [] [] ys vs long e = (refl, e)
same_halves [] (u ∷ us) ys vs long e = absurd (omega (arith, long))
same_halves (x ∷ xs) [] ys vs long e = absurd (omega (arith, long))
same_halves (x ∷ xs) (u ∷ us) ys vs long e =
    let parts = cons_same x u (xs ++ ys) (us ++ vs) e in
    let rest = same_halves xs us ys vs (omega (arith, long)) parts.1 in
    (ap (λ h. h ∷ xs) parts.0 ∙ ap (λ t. u ∷ t) rest.0, rest.1)

-- two places in a list are one, or one stands before the other
pub two_splits : {X : Type 0} (xs ys : List X) (x y : X) (rs ss : List X) → xs ++ x ∷ rs ≡ ys ++ y ∷ ss
    → ((xs ≡ ys) × (x ≡ y)) ⊎ (((more : List X) × (ys ≡ xs ++ x ∷ more)) ⊎ ((more : List X) × (xs ≡ ys ++ y ∷ more)))
two_splits [] [] x y rs ss e = inl (refl, (cons_same x y rs ss e).0)
two_splits [] (b ∷ ys) x y rs ss e =
    let parts = cons_same x b rs (ys ++ y ∷ ss) e in
    inr (inl (ys, ap (λ h. h ∷ ys) (sym parts.0)))
two_splits (a ∷ xs) [] x y rs ss e =
    let parts = cons_same a y (xs ++ x ∷ rs) ss e in
    inr (inr (xs, ap (λ h. h ∷ xs) parts.0))
two_splits (a ∷ xs) (b ∷ ys) x y rs ss e =
    let parts = cons_same a b (xs ++ x ∷ rs) (ys ++ y ∷ ss) e in
    elim (two_splits xs ys x y rs ss parts.1) [
      | inl same ↦ inl (ap (λ h. h ∷ xs) parts.0 ∙ ap (λ t. b ∷ t) same.0, same.1)
      | inr (inl first) ↦ inr (inl (first.0, ap (λ t. b ∷ t) first.1 ∙ ap (λ h. h ∷ xs ++ x ∷ first.0) (sym parts.0)))
      | inr (inr second) ↦ inr (inr (second.0, ap (λ t. a ∷ t) second.1 ∙ ap (λ h. h ∷ ys ++ y ∷ second.0) parts.0))
    ]

-- a place among what is made of a list is made of a place of the list
pub record MapSplit {X Y : Type 0} (f : X → Y) (xs : List X) (before : List Y) (y : Y) : Type 0 where
  pub front : List X
  pub x : X
  pub back : List X
  pub split : xs ≡ front ++ x ∷ back
  pub before_is : map f front ≡ before
  pub y_is : f x ≡ y

pub map_split : {X Y : Type 0} (f : X → Y) (xs : List X) (before rest : List Y) (y : Y) → map f xs ≡ before ++ y ∷ rest → MapSplit f xs before y
map_split f [] [] rest y e = absurd (omega (arith, ap length e))
map_split f [] (b ∷ before) rest y e = absurd (omega (arith, ap length e))
map_split f (x ∷ xs) [] rest y e =
    record { front = []; x = x; back = xs; split = refl; before_is = refl; y_is = (cons_same (f x) y (map f xs) rest e).0 }
map_split f (x ∷ xs) (b ∷ before) rest y e =
    let parts = cons_same (f x) b (map f xs) (before ++ y ∷ rest) e in
    let found = map_split f xs before rest y parts.1 in
    record {
      front = x ∷ found.front;
      x = found.x;
      back = found.back;
      split = ap (λ t. x ∷ t) found.split;
      before_is = ap (λ h. h ∷ map f found.front) parts.0 ∙ ap (λ t. b ∷ t) found.before_is;
      y_is = found.y_is;
    }

-- what holds of all of a list holds at each place
pub All-split : {X : Type 0} (P : X → Type 0) (before : List X) (x : X) (rest : List X) → All P (before ++ x ∷ rest) → P x
All-split P [] x rest all = All-head P x rest all
All-split P (b ∷ before) x rest all = All-split P before x rest (All-tail P b (before ++ x ∷ rest) all)

-- where one of a list fails, not all hold
pub not_all : {X : Type 0} (P : X → Type 0) (items : List X) (place : ℕ) (item : X) → IsFirstFailing P items place item → All P items → ⊥
not_all P items place item first all =
    first.fails (All-split P first.before item first.rest (subst (All P) first.split all))

-- one is the first of a list that fails
pub one_first : {X : Type 0} (P : X → Type 0) (items : List X) (p q : ℕ) (x y : X) → IsFirstFailing P items p x → IsFirstFailing P items q y → (p ≡ q) × (x ≡ y)
one_first P items p q x y one other =
    elim (two_splits one.before other.before x y one.rest other.rest (sym one.split ∙ other.split)) [
      | inl same ↦ (one.index ∙ ap length same.0 ∙ sym other.index, same.1)
      | inr (inl first) ↦ absurd (one.fails (All-split P one.before x first.0 (subst (All P) first.1 other.hold)))
      | inr (inr second) ↦ absurd (other.fails (All-split P other.before y second.0 (subst (All P) second.1 one.hold)))
    ]

-- where none is the first to fail, no item fails
pub first_fails_or_all : {X : Type 0} (P : X → Type 0) (items : List X) → ((place : ℕ) (item : X) → IsFirstFailing P items place item → ⊥) → (All P items → ⊥) → ⊥
first_fails_or_all P [] none fails = fails (All-nil P)
first_fails_or_all P (x ∷ xs) none fails =
    let remaining = λ (p : P x) (place : ℕ) (item : _) (first : IsFirstFailing P xs place item). none (place + 1) item (record {
      before = x ∷ first.before;
      rest = first.rest;
      split = ap (λ t. x ∷ t) first.split;
      index = omega (arith, first.index);
      hold = All-cons P x first.before p first.hold;
      fails = first.fails;
    }) in
    none 0 x (record {
      before = [];
      rest = xs;
      split = refl;
      index = refl;
      hold = All-nil P;
      fails = λ p. first_fails_or_all P xs (remaining p) (λ all. fails (All-cons P x xs p all));
    })

-- ---- answers

-- no two answers differ that are given for F
abbrev pub IsOne : {R : Type 0} → (R → Type 0) → Type 0
IsOne {R} F = (r s : R) → F r → F s → r ≡ s

-- an answer is given for F; or P holds, which F excludes, and it is given for G
pub one_more : {R : Type 0} (F : R → Type 0) (P : Type 0) (G : R → Type 0) → ((r : R) → F r → P → ⊥) → IsOne F → IsOne G
    → IsOne (λ r. F r ⊎ (P × G r))
one_more F P G apart first others r s (inl x) (inl y) = first r s x y
one_more F P G apart first others r s (inl x) (inr y) = absurd (apart r x y.0)
one_more F P G apart first others r s (inr x) (inl y) = absurd (apart s y x.0)
one_more F P G apart first others r s (inr x) (inr y) = others r s x.1 y.1

-- the answer is c where P does not hold, and else it is given for G
abbrev pub Lacks : {R : Type 0} → R → Type 0 → (R → Type 0) → R → Type 0
Lacks c P G r = ((r ≡ c) × (P → ⊥)) ⊎ (P × G r)

pub one_lacks : {R : Type 0} (c : R) (P : Type 0) (G : R → Type 0) → IsOne G → IsOne (Lacks c P G)
one_lacks c P G others = one_more (λ r. (r ≡ c) × (P → ⊥)) P G (λ r x p. x.1 p) (λ r s x y. x.0 ∙ sym y.0) others

-- nothing is lacking where P holds, and nothing after it is
pub lacks_none : {R : Type 0} (c : R) (P : Type 0) (G : R → Type 0) (r : R) → P → (G r → ⊥) → Lacks c P G r → ⊥
lacks_none c P G r p none (inl x) = x.1 p
lacks_none c P G r p none (inr x) = none x.1
