-- The first line that gives a label: what a table says of it is what a walk over the lines finds.
use Rattle.std.proofs.Common.{◌≡◌, ◌↔◌, inl, ℕ, zero, suc, ◌+◌, ◌<◌, ◌≤◌, List, [], ◌∷◌, ◌++◌, length, take, drop, get_or, Bool, true, false, cond, ◌||◌, ◌==◌, Option, Some, None, is_some, unwrap_or, refl, sym, ap, subst, ◌∙◌, arith, length-take}
use Rattle.std.specs.Prelude.{IsTrue, MatchOption, slice_index}
use Rattle.std.specs.List.{list_any, position_from}
use Rattle.std.proofs.lemmas.Bool.{eqb-true, eq-eqb, false≢true}
use Rattle.std.proofs.lemmas.List.Quantifiers.{position-Some}
use Rattle.std.proofs.lemmas.Iterator.Adapters.{position_from-zero}
use Rattle.mb_format.proofs.Fields.{same_bytes-refl}
use Rattle.mb_appvm.specs.declared.keyword.Jump.{Jump}
use Rattle.mb_appvm.specs.declared.lines.Said.{Said}
use Rattle.mb_appvm.specs.declared.lines.Said.TheVariants as says
use Rattle.mb_appvm.specs.Assembly.{is_label, IsNew, IsPlaced}
use Rattle.mb_appvm.specs.Checking.{IsFirstLabel, IsTarget, AreMeasured}
use Rattle.mb_appvm.specs.Labels.{kept_or}
use Rattle.mb_appvm.proofs.Codes.{splits_at, placed_at}
use Rattle.mb_appvm.proofs.Soundness.{or_parts, or_false}

module _ {X : Type 0} (p : X → Bool) where
  -- one element more at the end is found if none before it was
  pub position_push : (i : ℕ) (xs : List X) (x : X) → position_from p i (xs ++ x ∷ []) ≡ kept_or (position_from p i xs) (p x) (i + length xs)
  position_push i [] x = by (p x)
    where
      by : (b : Bool) → cond b (Some i) None ≡ kept_or None b (i + 0)
      by true = ap (λ (n : ℕ). Some n) (omega arith)
      by false = refl
  position_push i (y ∷ xs) x = by (p y) (position_push (i + 1) xs x)
    where
      by : (b : Bool) → position_from p (i + 1) (xs ++ x ∷ []) ≡ kept_or (position_from p (i + 1) xs) (p x) (i + 1 + length xs)
          → cond b (Some i) (position_from p (i + 1) (xs ++ x ∷ [])) ≡ kept_or (cond b (Some i) (position_from p (i + 1) xs)) (p x) (i + length (y ∷ xs))
      by true on = refl
      by false on = on ∙ ap (λ (n : ℕ). kept_or (position_from p (i + 1) xs) (p x) n) (omega arith)

  pub position_some : (i : ℕ) (xs : List X) → is_some (position_from p i xs) ≡ list_any p xs
  position_some i [] = refl
  position_some i (x ∷ xs) = by (p x) (position_some (i + 1) xs)
    where
      by : (b : Bool) → is_some (position_from p (i + 1) xs) ≡ list_any p xs → is_some (cond b (Some i) (position_from p (i + 1) xs)) ≡ (b || list_any p xs)
      by true on = refl
      by false on = on

  pub position_within : (i most : ℕ) (xs : List X) → i + length xs ≤ most → MatchOption (position_from p i xs) (Unit {0}) (λ n. n < most)
  position_within i most [] room = tt
  position_within i most (x ∷ xs) room = by (p x) (position_from p (i + 1) xs) (position_within (i + 1) most xs (omega (arith, room)))
    where
      by : (b : Bool) (o : Option ℕ) → MatchOption o (Unit {0}) (λ n. n < most) → MatchOption (cond b (Some i) o) (Unit {0}) (λ n. n < most)
      by true o on = omega (arith, room)
      by false o on = on

  pub position_there : (xs : List X) (i : ℕ) (d : X) → position_from p 0 xs ≡ Some i
      → (i < length xs) × (p (get_or xs i d) ≡ true) × ((k : ℕ) → k < i → p (get_or xs k d) ≡ false)
  position_there xs i d is = position-Some p xs i d (position_from-zero p xs ∙ is)

  none_before : (xs : List X) (n : ℕ) (d : X) → ((k : ℕ) → k < n → p (get_or xs k d) ≡ false) → list_any p (take n xs) ≡ false
  none_before xs zero d other = refl
  none_before [] (suc n) d other = refl
  none_before (x ∷ xs) (suc n) d other =
      or_false (p x) (list_any p (take n xs)) (other zero (omega arith)) (none_before xs n d (λ k less. other (suc k) (omega (arith, less))))

  -- the place among all, where none passes among the first
  position_after : (i : ℕ) (xs ys : List X) → list_any p xs ≡ false → position_from p i (xs ++ ys) ≡ position_from p (i + length xs) ys
  position_after i [] ys none = ap (λ (n : ℕ). position_from p n ys) (omega arith)
  position_after i (x ∷ xs) ys none =
      let parts = or_parts (p x) (list_any p xs) none in
      ap (λ (b : Bool). cond b (Some i) (position_from p (i + 1) (xs ++ ys))) parts.0 ∙ position_after (i + 1) xs ys parts.1
      ∙ ap (λ (n : ℕ). position_from p n ys) (omega arith)

-- ---- lines

-- the line is the first with its label if none before it gives the label, and only then
pub first_new : (all : List Said) (at : ℕ) (s d : Said) → at < length all → s ≡ get_or all at d → IsFirstLabel all at s ↔ IsNew s (take at all)
first_new all at (says.Whole it) d within is = ((λ first. tt), (λ new. tt))
first_new all at (says.JumpTo kind name) d within is = ((λ first. tt), (λ new. tt))
first_new all at (says.Label name) d within is = (
  (λ first. none_before (is_label name) all at d (position_there (is_label name) all at d first).2),
  (λ new.
      ap (position_from (is_label name) 0) (splits_at all at (says.Label name) d within is)
      ∙ position_after (is_label name) 0 (take at all) (says.Label name ∷ drop (at + 1) all) new
      ∙ ap (λ (b : Bool). cond b (Some (0 + length (take at all))) (position_from (is_label name) (0 + length (take at all) + 1) (drop (at + 1) all))) (same_bytes-refl name)
      ∙ ap (λ (n : ℕ). Some n) (omega (arith, within, length-take at all))),
)

pub first_at : (found : Option ℕ) (first at : ℕ) → Some first ≡ found → IsTrue (first == at) ↔ (found ≡ Some at)
first_at found first at is = ((λ yes. sym is ∙ ap (λ (n : ℕ). Some n) (eqb-true first at yes)), (λ same. at_same (is ∙ same)))
  where
    at_same : Some first ≡ Some at → IsTrue (first == at)
    at_same e = eq-eqb first at (ap (λ (o : Option ℕ). unwrap_or o at) e)

pub first_none : (found : Option ℕ) (at : ℕ) → None ≡ found → IsTrue false ↔ (found ≡ Some at)
first_none found at is = ((λ yes. absurd (false≢true yes)), (λ same. absurd (none_some (is ∙ same))))
  where
    none_some : None ≡ Some at → ⊥
    none_some e = absurd cc

-- the label of a line is given there first, or elsewhere before
pub label_first : (r : Bool) (line : Said) (name read : List ℕ) (all : List Said) (rest : List ℕ) (at : ℕ) → line ≡ says.Label name → read ≡ name
    → IsTrue r ↔ (position_from (is_label read) 0 all ≡ Some at) → IsTrue r ↔ (IsFirstLabel all at line × IsTarget all rest line)
label_first r line name read all rest at is same e =
    let first = subst (λ (x : List ℕ). IsTrue r ↔ (position_from (is_label x) 0 all ≡ Some at)) same e in
    subst (λ (s : Said). IsTrue r ↔ (IsFirstLabel all at s × IsTarget all rest s)) (sym is)
    ((λ holds. (first.0 holds, tt)), (λ both. first.1 both.0))

pub jump_target : (r : Bool) (line : Said) (kind : Jump) (name read : List ℕ) (all : List Said) (rest : List ℕ) (at : ℕ) → line ≡ says.JumpTo kind name → read ≡ name
    → true ≡ list_any (is_label read) all → r ≡ true → IsTrue r ↔ (IsFirstLabel all at line × IsTarget all rest line)
jump_target r line kind name read all rest at is same e holds =
    let any : list_any (is_label name) all ≡ true = ap (λ (x : List ℕ). list_any (is_label x) all) (sym same) ∙ sym e in
    subst (λ (s : Said). IsTrue r ↔ (IsFirstLabel all at s × IsTarget all rest s)) (sym is)
    ((λ is_so. (tt, inl any)), (λ both. holds))

-- a label has the place of the line that gives it first
pub place_found : (all : List Said) (places name : List ℕ) (line : ℕ) → AreMeasured all places → position_from (is_label name) 0 all ≡ Some line → IsPlaced all name (slice_index places line)
place_found all places name line measured is =
    let d = says.Label name in
    let there = position_there (is_label name) all line d is in
    placed_at all name line (slice_index places line) (get_or all line d) d there.0 refl there.1 (measured.place line there.0)
