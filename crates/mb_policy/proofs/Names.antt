-- Sets and rules by their names, and hashes in sets.
use Rattle.std.proofs.Common.{◌≡◌, ◌==◌, ℕ, suc, ◌+◌, List, [], ◌∷◌, ◌++◌, length, Bool, true, false, cond, Option, Some, None, refl, ap, ◌∙◌, arith, nat_lt}
use Rattle.std.specs.Prelude.{◌&&◌, ◌||◌, not, position, if◌then◌else◌}
use Rattle.std.specs.List.{position_or_len, list_any}
use Rattle.std.specs.Str.{bytes_eq}
use Rattle.mb_format.specs.Combinators.{same_bytes}
use Rattle.mb_policy.specs.declared.policy.NamedSet.{NamedSet}
use Rattle.mb_policy.specs.declared.policy.Line.{Line}
use Rattle.mb_policy.specs.declared.policy.Line.TheVariants as line
use Rattle.mb_policy.specs.Policies.{HashSet, PolicyItem, set_item, set_named, is_rule_named}
use Rattle.mb_policy.specs.Meanings.{set_meant, set_at, set_given, line_has_set, line_has_rule, line_meant, items_after}

same_is : (xs ys : List ℕ) → bytes_eq xs ys ≡ same_bytes xs ys
same_is [] [] = refl
same_is [] (y ∷ ys) = refl
same_is (x ∷ xs) [] = refl
same_is (x ∷ xs) (y ∷ ys) = both (x == y) (bytes_eq xs ys) (same_bytes xs ys) (same_is xs ys)
  where
    both : (b one other : Bool) → one ≡ other → (b && one) ≡ (if b then other else false)
    both true one other e = e
    both false one other e = refl

pub named_is : {r : Bool} (read own name : List ℕ) → r ≡ bytes_eq read name → read ≡ own → r ≡ same_bytes own name
named_is read own name is same = is ∙ same_is read name ∙ ap (λ (xs : List ℕ). same_bytes xs name) same

pub both_are : {r : Bool} (read other one two : List ℕ) → r ≡ bytes_eq read other → read ≡ one → other ≡ two → r ≡ same_bytes one two
both_are read other one two is same also = named_is read one other is same ∙ ap (same_bytes one) also

-- whether a rule has a name does not depend on the lines before it
pub rules_named : (name : List ℕ) (before : List PolicyItem) (lines : List Line) → list_any (is_rule_named name) (items_after before lines) ≡ list_any (line_has_rule name) lines
rules_named name before [] = refl
rules_named name before (line.Set set ∷ lines) = rules_named name (before ++ line_meant before (line.Set set) ∷ []) lines
rules_named name before (line.Rule rule ∷ lines) =
    ap (λ (b : Bool). same_bytes rule.name name || b) (rules_named name (before ++ line_meant before (line.Rule rule) ∷ []) lines)

-- one line more before the index that was found
shifted : (item : PolicyItem) (items : List PolicyItem) (k n : ℕ) → ((i : ℕ) → set_at (item ∷ items) (1 + i) ≡ set_at items i)
    → set_given (item ∷ items) (cond (nat_lt (1 + k) (suc n)) (Some (1 + k)) None) ≡ set_given items (cond (nat_lt k n) (Some k) None)
shifted item items k n same = by (nat_lt (1 + k) (suc n)) (nat_lt k n) refl refl
  where
    by : (one other : Bool) → nat_lt (1 + k) (suc n) ≡ one → nat_lt k n ≡ other → set_given (item ∷ items) (cond one (Some (1 + k)) None) ≡ set_given items (cond other (Some k) None)
    by true true e f = ap Some (same k)
    by false false e f = refl
    by true false e f = absurd (grind (arith, e, f))
    by false true e f = absurd (grind (arith, e, f))

one_more : (i : ℕ) → 1 + i ≡ suc i
one_more i = omega arith

-- the first line is a set: it has the name, or the lines after it are asked
first_set : (name : List ℕ) (set : NamedSet) (items : List PolicyItem) (k n : ℕ) (rest : Option HashSet) (b : Bool)
    → set_given items (cond (nat_lt k n) (Some k) None) ≡ rest
    → set_given (set_item (set_meant set) ∷ items) (cond (nat_lt (cond (not b) (1 + k) 0) (suc n)) (Some (cond (not b) (1 + k) 0)) None)
    ≡ cond b (Some (set_meant set)) rest
first_set name set items k n rest true later = by (nat_lt 0 (suc n)) refl
  where
    by : (some : Bool) → nat_lt 0 (suc n) ≡ some → set_given (set_item (set_meant set) ∷ items) (cond some (Some 0) None) ≡ Some (set_meant set)
    by true e = refl
    by false e = absurd (grind (arith, e))
first_set name set items k n rest false later =
    shifted (set_item (set_meant set)) items k n (λ i. ap (λ (m : ℕ). set_at (set_item (set_meant set) ∷ items) m) (one_more i)) ∙ later

-- the set that stands at the first index whose line has the name is the set with this name
pub sets_named : (name : List ℕ) (before : List PolicyItem) (lines : List Line)
    → set_given (items_after before lines) (position (line_has_set name) lines) ≡ set_named (items_after before lines) name
sets_named name before [] = refl
sets_named name before (line.Rule rule ∷ lines) =
    shifted (line_meant before (line.Rule rule)) (items_after (before ++ line_meant before (line.Rule rule) ∷ []) lines) (position_or_len (line_has_set name) lines) (length lines)
    (λ i. ap (λ (m : ℕ). set_at (line_meant before (line.Rule rule) ∷ items_after (before ++ line_meant before (line.Rule rule) ∷ []) lines) m) (one_more i))
    ∙ sets_named name (before ++ line_meant before (line.Rule rule) ∷ []) lines
sets_named name before (line.Set set ∷ lines) =
    let items = items_after (before ++ line_meant before (line.Set set) ∷ []) lines in
    first_set name set items (position_or_len (line_has_set name) lines) (length lines) (set_named items name) (same_bytes set.name name)
    (sets_named name (before ++ line_meant before (line.Set set) ∷ []) lines)
