-- A loop that looks for the first item of a list that a property does not hold of; and how many targets an order has.
use Rattle.std.proofs.Common.{◌≡◌, ℕ, suc, ◌+◌, ◌<◌, ◌≤◌, ◌∷◌, ◌++◌, All, List, length, take, drop, get_or, ◌∙◌, sym, ap, subst, arith}
use Rattle.std.proofs.Math.Seq.{split_at}
use Rattle.std.proofs.lemmas.List.{length-take-le, take_all}
use Rattle.std.proofs.lemmas.List.Elements.{All-more}
use Rattle.mb_model.specs.declared.order.Order.{Order}
use Rattle.mb_model.specs.records.OrderFormat.{order_format, body_format}
use Rattle.mb_model.specs.owners.Rules.{IsFirstFailing}

-- the property holds of the items before this one, and not of this one
pub found : {X : Type 0} (P : X → Type 0) (xs items : List X) (i : ℕ) (item d : X) → xs ≡ items → i < length xs → item ≡ get_or xs i d → All P (take i xs) → (P item → ⊥) → IsFirstFailing P items i item
found P xs items i item d same lt is hold fails = record {
  before = take i xs;
  rest = drop (suc i) xs;
  split = sym same ∙ split_at xs i d lt ∙ ap (λ x. take i xs ++ x ∷ drop (suc i) xs) (sym is);
  index = sym (length-take-le i xs (omega arith));
  hold = hold;
  fails = fails;
}

-- the property holds of the items before this one, and of this one
pub passed : {X : Type 0} (P : X → Type 0) (xs : List X) (i : ℕ) (item d : X) → i < length xs → item ≡ get_or xs i d → All P (take i xs) → P item → All P (take (i + 1) xs)
passed P xs i item d lt is hold here = All-more P xs i d lt hold (subst P is here)

-- the property holds of every item
pub ended : {X : Type 0} (P : X → Type 0) (xs items : List X) (i : ℕ) → xs ≡ items → length xs ≤ i → All P (take i xs) → All P items
ended P xs items i same most hold = subst (All P) (take_all i xs most ∙ same) hold

-- an order that has a spelling has at most 8 targets
pub few_targets : (order : Order) → order_format.Allowed order → length order.targets ≤ 8
unfolding order_format body_format
few_targets order h = h.0.1.1.0.0.1
