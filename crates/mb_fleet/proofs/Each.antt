-- What holds of each item of a list, where the list grows, is cut, or has one item replaced.
use Rattle.std.proofs.Common.{zero, suc, List, [], ◌∷◌, ◌++◌, arith}
use Rattle.std.specs.List.{AllByRecursion, All}

module _ {X : Type 0} (P : X → Type 0) where
  pub each_join : (xs ys : List X) → AllByRecursion P xs → AllByRecursion P ys → AllByRecursion P (xs ++ ys)
  each_join [] ys front back = back
  each_join (x ∷ xs) ys front back = (front.0, each_join xs ys front.1 back)

  pub each_push : (xs : List X) (x : X) → AllByRecursion P xs → P x → AllByRecursion P (xs ++ x ∷ [])
  each_push xs x front last = each_join xs (x ∷ []) front (last, tt)

  pub each_front : (xs ys : List X) → AllByRecursion P (xs ++ ys) → AllByRecursion P xs
  each_front [] ys each = tt
  each_front (x ∷ xs) ys each = (each.0, each_front xs ys each.1)

  pub each_back : (xs ys : List X) → AllByRecursion P (xs ++ ys) → AllByRecursion P ys
  each_back [] ys each = each
  each_back (x ∷ xs) ys each = each_back xs ys each.1

  -- one item more between two lists, or in place of another
  pub each_between : (xs : List X) (x : X) (ys : List X) → AllByRecursion P (xs ++ ys) → P x → AllByRecursion P (xs ++ x ∷ ys)
  each_between xs x ys each one = each_join xs (x ∷ ys) (each_front xs ys each) (one, each_back xs ys each)

  pub each_instead : (xs : List X) (old x : X) (ys : List X) → AllByRecursion P (xs ++ old ∷ ys) → P x → AllByRecursion P (xs ++ x ∷ ys)
  each_instead xs old x ys each one = each_join xs (x ∷ ys) (each_front xs (old ∷ ys) each) (one, (each_back xs (old ∷ ys) each).1)

  -- the item in the middle
  pub each_middle : (xs : List X) (x : X) (ys : List X) → AllByRecursion P (xs ++ x ∷ ys) → P x
  each_middle xs x ys each = (each_back xs (x ∷ ys) each).0

  pub all_of_each : (xs : List X) → AllByRecursion P xs → All P xs
  all_of_each [] each k d lt = absurd (omega (arith, lt))
  all_of_each (x ∷ xs) each zero d lt = each.0
  all_of_each (x ∷ xs) each (suc k) d lt = all_of_each xs each.1 k d (omega arith)

pub each_weaker : {X : Type 0} (P Q : X → Type 0) → ((x : X) → P x → Q x) → (xs : List X) → AllByRecursion P xs → AllByRecursion Q xs
each_weaker P Q weaker [] each = tt
each_weaker P Q weaker (x ∷ xs) each = (weaker x each.0, each_weaker P Q weaker xs each.1)

pub each_any : {X : Type 0} (P : X → Type 0) → ((x : X) → P x) → (xs : List X) → AllByRecursion P xs
each_any P holds [] = tt
each_any P holds (x ∷ xs) = (holds x, each_any P holds xs)
