-- Secrets by their names.
use Rattle.std.proofs.Common.{◌≡◌, ℕ, ◌≤◌, ◌<◌, List, [], ◌∷◌, length, Bool, true, false, cond, None, Some, refl, sym, ap, ◌∙◌, arith, nat_lt, get_or}
use Rattle.std.specs.Prelude.{◌&&◌, find, position, slice_get, ◌==◌, if◌then◌else◌}
use Rattle.std.specs.List.{position_or_len}
use Rattle.std.specs.Str.{bytes_eq}
use Rattle.std.proofs.lemmas.List.Folds.{find_at}
use Rattle.std.proofs.lemmas.Option.{slice_get_past, slice_get-get_or}
use Rattle.mb_format.specs.Combinators.{same_bytes}
use Rattle.mb_model.specs.declared.region.Secret.{Secret}
use Rattle.mb_model.specs.machine.LayerEvents.{has_name}
use Rattle.mb_appvm.specs.Acting.{HasValue}

pub same_is : (xs ys : List ℕ) → bytes_eq xs ys ≡ same_bytes xs ys
same_is [] [] = refl
same_is [] (y ∷ ys) = refl
same_is (x ∷ xs) [] = refl
same_is (x ∷ xs) (y ∷ ys) = both (x == y) (bytes_eq xs ys) (same_bytes xs ys) (same_is xs ys)
  where
    both : (b one other : Bool) → one ≡ other → (b && one) ≡ (if b then other else false)
    both true one other e = e
    both false one other e = refl

pub named_is : {r : Bool} (read own name : List ℕ) → r ≡ bytes_eq read name → read ≡ own → r ≡ same_bytes own name
named_is read own name is same = is ∙ same_is read name ∙ ap (λ (xs : List ℕ). same_bytes xs name) same

-- what a place tells: the first that passes stands there
at_first : {X : Type 0} (p : X → Bool) (xs : List X) (at : ℕ) → Some at ≡ position p xs → at ≡ position_or_len p xs
at_first p xs at is = by (nat_lt (position_or_len p xs) (length xs)) is
  where
    by : (b : Bool) → Some at ≡ cond b (Some (position_or_len p xs)) None → at ≡ position_or_len p xs
    by true e = cc
    by false e = absurd cc

nowhere : {X : Type 0} (p : X → Bool) (xs : List X) → None ≡ position p xs → length xs ≤ position_or_len p xs
nowhere p xs is = by (nat_lt (position_or_len p xs) (length xs)) refl is
  where
    by : (b : Bool) → nat_lt (position_or_len p xs) (length xs) ≡ b → None ≡ cond b (Some (position_or_len p xs)) None → length xs ≤ position_or_len p xs
    by true e f = absurd cc
    by false e f = grind (arith, e)

-- the secret at the place of the first that has the name
pub found_there : (name : List ℕ) (secrets : List Secret) (at : ℕ) (d : Secret) (value : List ℕ) → Some at ≡ position (has_name name) secrets
    → at < length secrets → value ≡ (get_or secrets at d).value → HasValue (find (has_name name) secrets) value
found_there name secrets at d value is within same =
    let there = find_at (has_name name) secrets ∙ ap (slice_get secrets) (sym (at_first (has_name name) secrets at is)) ∙ slice_get-get_or secrets at d within in
    rw there same

pub found_nowhere : (name : List ℕ) (secrets : List Secret) → None ≡ position (has_name name) secrets → find (has_name name) secrets ≡ None
found_nowhere name secrets is =
    find_at (has_name name) secrets ∙ slice_get_past secrets (position_or_len (has_name name) secrets) (nowhere (has_name name) secrets is)
