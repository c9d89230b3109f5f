-- Lists that ascend: cut in two, with one item more, and with one item in place of another.
use Rattle.std.proofs.Common.{◌≡◌, ℕ, List, [], ◌∷◌, ◌++◌, true≢false, sym, ap, subst, ◌∙◌}
use Rattle.std.specs.List.{AllByRecursion}
use Rattle.std.specs.Cmp.Lexicographic.{slice_cmp}
use Rattle.std.specs.Ordering.{nat_cmp, is_lt, ordering_reverse}
use Rattle.std.specs.declared.cmp.Ordering.TheVariants.{Less, Equal, Greater}
use Rattle.std.proofs.lemmas.Cmp.{nat_list_cmp_total}
use Rattle.std.proofs.lemmas.Map.Lookups.{exact_bytes}
use Rattle.mb_fleet.specs.Order.{IsBefore, IsAscending}
use Rattle.mb_fleet.proofs.Each.{each_join, each_front, each_back, each_weaker}

-- ---- two keys

less_differs : Less ≡ Greater → ⊥
less_differs p = true≢false (ap is_lt p)

pub before_trans : (a b c : List ℕ) → IsBefore a b → IsBefore b c → IsBefore a c
before_trans a b c p q = nat_list_cmp_total.trans a b c p q

pub not_before_itself : (a : List ℕ) → IsBefore a a → ⊥
not_before_itself a p = less_differs (sym p ∙ nat_list_cmp_total.antisymm a a ∙ ap ordering_reverse p)

pub before_differs : (a b : List ℕ) → IsBefore a b → a ≡ b → ⊥
before_differs a b p e = not_before_itself b (subst (λ (x : List ℕ). IsBefore x b) e p)

pub after_is_before : (a b : List ℕ) → slice_cmp nat_cmp a b ≡ Greater → IsBefore b a
after_is_before a b p = nat_list_cmp_total.antisymm b a ∙ ap ordering_reverse p

pub equal_keys : (a b : List ℕ) → slice_cmp nat_cmp a b ≡ Equal → a ≡ b
equal_keys a b p = exact_bytes a b p

-- ---- lists

module _ {A : Type 0} (key : A → List ℕ) where
  -- each item of one list comes before each of another
  abbrev pub IsBelow : List A → List A → Type 0
  IsBelow xs ys = AllByRecursion (λ x. AllByRecursion (λ y. IsBefore (key x) (key y)) ys) xs

  pub ascending_front : (xs ys : List A) → IsAscending key (xs ++ ys) → IsAscending key xs
  ascending_front [] ys is = tt
  ascending_front (x ∷ xs) ys is = (each_front (λ y. IsBefore (key x) (key y)) xs ys is.0, ascending_front xs ys is.1)

  pub ascending_back : (xs ys : List A) → IsAscending key (xs ++ ys) → IsAscending key ys
  ascending_back [] ys is = is
  ascending_back (x ∷ xs) ys is = ascending_back xs ys is.1

  pub ascending_below : (xs ys : List A) → IsAscending key (xs ++ ys) → IsBelow xs ys
  ascending_below [] ys is = tt
  ascending_below (x ∷ xs) ys is = (each_back (λ y. IsBefore (key x) (key y)) xs ys is.0, ascending_below xs ys is.1)

  pub ascending_join : (xs ys : List A) → IsAscending key xs → IsAscending key ys → IsBelow xs ys → IsAscending key (xs ++ ys)
  ascending_join [] ys front back below = back
  ascending_join (x ∷ xs) ys front back below =
      (each_join (λ y. IsBefore (key x) (key y)) xs ys front.0 below.0, ascending_join xs ys front.1 back below.1)

  -- below a list that has one item more at its front
  below_more : (xs : List A) (y : A) (ys : List A) → AllByRecursion (λ x. IsBefore (key x) (key y)) xs → IsBelow xs ys → IsBelow xs (y ∷ ys)
  below_more [] y ys one below = tt
  below_more (x ∷ xs) y ys one below = ((one.0, below.0), below_more xs y ys one.1 below.1)

  below_first : (xs : List A) (y : A) (ys : List A) → IsBelow xs (y ∷ ys) → AllByRecursion (λ x. IsBefore (key x) (key y)) xs
  below_first [] y ys below = tt
  below_first (x ∷ xs) y ys below = (below.0.0, below_first xs y ys below.1)

  below_later : (xs : List A) (y : A) (ys : List A) → IsBelow xs (y ∷ ys) → IsBelow xs ys
  below_later [] y ys below = tt
  below_later (x ∷ xs) y ys below = (below.0.1, below_later xs y ys below.1)

  -- one item more, between those before it and those after it
  pub ascending_between : (xs : List A) (y : A) (ys : List A) → IsAscending key (xs ++ ys)
      → AllByRecursion (λ x. IsBefore (key x) (key y)) xs → AllByRecursion (λ x. IsBefore (key y) (key x)) ys → IsAscending key (xs ++ y ∷ ys)
  ascending_between xs y ys is below above =
      ascending_join xs (y ∷ ys) (ascending_front xs ys is) (above, ascending_back xs ys is) (below_more xs y ys below (ascending_below xs ys is))

  -- the items before and after one in the middle
  pub middle_below : (xs : List A) (y : A) (ys : List A) → IsAscending key (xs ++ y ∷ ys) → AllByRecursion (λ x. IsBefore (key x) (key y)) xs
  middle_below xs y ys is = below_first xs y ys (ascending_below xs (y ∷ ys) is)

  pub middle_above : (xs : List A) (y : A) (ys : List A) → IsAscending key (xs ++ y ∷ ys) → AllByRecursion (λ x. IsBefore (key y) (key x)) ys
  middle_above xs y ys is = (ascending_back xs (y ∷ ys) is).0

  -- without the one in the middle
  pub ascending_without : (xs : List A) (y : A) (ys : List A) → IsAscending key (xs ++ y ∷ ys) → IsAscending key (xs ++ ys)
  ascending_without xs y ys is =
      ascending_join xs ys (ascending_front xs (y ∷ ys) is) (ascending_back xs (y ∷ ys) is).1 (below_later xs y ys (ascending_below xs (y ∷ ys) is))

  -- another item with the same key instead
  pub ascending_instead : (xs : List A) (old y : A) (ys : List A) → key old ≡ key y → IsAscending key (xs ++ old ∷ ys) → IsAscending key (xs ++ y ∷ ys)
  ascending_instead xs old y ys same is =
      ascending_between xs y ys (ascending_without xs old ys is)
      (subst (λ (k : List ℕ). AllByRecursion (λ x. IsBefore (key x) k) xs) same (middle_below xs old ys is))
      (subst (λ (k : List ℕ). AllByRecursion (λ x. IsBefore k (key x)) ys) same (middle_above xs old ys is))

  -- a key before that of one item comes before those of all later ones
  pub before_all : (wanted : List ℕ) (x : A) (ys : List A) → IsBefore wanted (key x) → AllByRecursion (λ y. IsBefore (key x) (key y)) ys
      → AllByRecursion (λ y. IsBefore wanted (key y)) ys
  before_all wanted x ys first each =
      each_weaker (λ y. IsBefore (key x) (key y)) (λ y. IsBefore wanted (key y)) (λ y p. before_trans wanted (key x) (key y) first p) ys each

  -- items before and after a key have another
  pub none_has : (xs ys : List A) (wanted : List ℕ) → AllByRecursion (λ x. IsBefore (key x) wanted) xs → AllByRecursion (λ x. IsBefore wanted (key x)) ys
      → AllByRecursion (λ x. key x ≡ wanted → ⊥) (xs ++ ys)
  none_has xs ys wanted below above = each_join (λ x. key x ≡ wanted → ⊥) xs ys
      (each_weaker (λ x. IsBefore (key x) wanted) (λ x. key x ≡ wanted → ⊥) (λ x p e. before_differs (key x) wanted p e) xs below)
      (each_weaker (λ x. IsBefore wanted (key x)) (λ x. key x ≡ wanted → ⊥) (λ x p e. before_differs wanted (key x) p (sym e)) ys above)
