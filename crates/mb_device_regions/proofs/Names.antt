-- Secrets that are found, put and dropped by their names.
use Rattle.std.proofs.Common.{◌≡◌, ◌≢◌, ◌<◌, ◌≤◌, ℕ, zero, suc, List, [], ◌∷◌, ◌++◌, length, map, Bool, true, false, cond, None, Some, refl, sym, ap, subst, ◌∙◌, arith, get_or, nat_lt}
use Rattle.std.specs.Prelude.{not, ◌&&◌, nat_le, All, AllPairs, find, filter, position, remove, slice_set, slice_get, ◌==◌, if◌then◌else◌}
use Rattle.std.specs.List.{list_any, position_or_len}
use Rattle.std.specs.Str.{bytes_eq}
use Rattle.std.proofs.lemmas.Bool.{le-leb}
use Rattle.std.proofs.lemmas.List.Elements.{All-head, All-tail}
use Rattle.std.proofs.lemmas.List.Folds.{list_any_at, list_any_none, find_at}
use Rattle.std.proofs.lemmas.List.Quantifiers.{position-Some}
use Rattle.std.proofs.lemmas.List.Sums.{fails_before_first}
use Rattle.std.proofs.lemmas.Option.{slice_get_past}
use Rattle.mb_format.specs.Combinators.{same_bytes}
use Rattle.mb_format.proofs.Fields.{same_bytes-true}
use Rattle.mb_model.specs.declared.region.Region.{Region}
use Rattle.mb_model.specs.declared.region.Secret.{Secret}
use Rattle.mb_model.specs.declared.reply.Reply.TheVariants as reply
use Rattle.mb_model.specs.machine.LayerEvents.{has_name, with_secret, value_reply, is_full_for}
use Rattle.mb_device_regions.specs.Secrets.{IsKeptRegion, IsPut, IsDropped}

-- ---- a test that one element of a list passes

-- no two elements pass
abbrev IsLone : {X : Type 0} → (X → Bool) → List X → Type 0
IsLone p xs = AllPairs (λ a b. p a ≡ true → p b ≡ false) xs

lone_tail : {X : Type 0} (p : X → Bool) (x : X) (xs : List X) → IsLone p (x ∷ xs) → IsLone p xs
lone_tail p x xs lone = λ i j d less within. lone (suc i) (suc j) d (omega arith) (omega arith)

-- what stands after one that passes does not
none_after : {X : Type 0} (p : X → Bool) (x : X) (xs : List X) → IsLone p (x ∷ xs) → p x ≡ true → All (λ y. p y ≡ false) xs
none_after p x xs lone passes = λ k d within. lone zero (suc k) d (omega arith) (omega arith) passes

abbrev replaced : {X : Type 0} → (X → Bool) → X → List X → List X
replaced p new xs = map (λ old. if p old then new else old) xs

abbrev kept : {X : Type 0} → (X → Bool) → List X → List X
kept p xs = filter (λ x. not (p x)) xs

none_replaced : {X : Type 0} (p : X → Bool) (new : X) (xs : List X) → All (λ x. p x ≡ false) xs → replaced p new xs ≡ xs
none_replaced p new [] none = refl
none_replaced {X} p new (x ∷ xs) none =
    let P : X → Type 0 = λ y. p y ≡ false in
    ap (λ (b : Bool). (if b then new else x) ∷ replaced p new xs) (All-head P x xs none) ∙ ap (λ (ys : List X). x ∷ ys) (none_replaced p new xs (All-tail P x xs none))

none_dropped : {X : Type 0} (p : X → Bool) (xs : List X) → All (λ x. p x ≡ false) xs → kept p xs ≡ xs
none_dropped p [] none = refl
none_dropped {X} p (x ∷ xs) none =
    let P : X → Type 0 = λ y. p y ≡ false in
    ap (λ (b : Bool). cond (not b) (x ∷ kept p xs) (kept p xs)) (All-head P x xs none) ∙ ap (λ (ys : List X). x ∷ ys) (none_dropped p xs (All-tail P x xs none))

-- the one that passes is replaced where it stands
one_replaced : {X : Type 0} (p : X → Bool) (new : X) (xs : List X) (at : ℕ) (d : X) → IsLone p xs → at < length xs → p (get_or xs at d) ≡ true → ((k : ℕ) → k < at → p (get_or xs k d) ≡ false)
    → replaced p new xs ≡ slice_set xs at new
one_replaced p new [] at d lone within passes first = absurd (omega (arith, within))
one_replaced {X} p new (x ∷ xs) zero d lone within passes first =
    ap (λ (b : Bool). (if b then new else x) ∷ replaced p new xs) passes ∙ ap (λ (ys : List X). new ∷ ys) (none_replaced p new xs (none_after p x xs lone passes))
one_replaced {X} p new (x ∷ xs) (suc at) d lone within passes first =
    ap (λ (b : Bool). (if b then new else x) ∷ replaced p new xs) (first zero (omega arith))
    ∙ ap (λ (ys : List X). x ∷ ys) (one_replaced p new xs at d (lone_tail p x xs lone) (omega (arith, within)) passes (λ k less. first (suc k) (omega (arith, less))))

-- and is taken out
one_dropped : {X : Type 0} (p : X → Bool) (xs : List X) (at : ℕ) (d : X) → IsLone p xs → at < length xs → p (get_or xs at d) ≡ true → ((k : ℕ) → k < at → p (get_or xs k d) ≡ false)
    → kept p xs ≡ remove xs at
one_dropped p [] at d lone within passes first = absurd (omega (arith, within))
one_dropped {X} p (x ∷ xs) zero d lone within passes first =
    ap (λ (b : Bool). cond (not b) (x ∷ kept p xs) (kept p xs)) passes ∙ none_dropped p xs (none_after p x xs lone passes)
one_dropped {X} p (x ∷ xs) (suc at) d lone within passes first =
    ap (λ (b : Bool). cond (not b) (x ∷ kept p xs) (kept p xs)) (first zero (omega arith))
    ∙ ap (λ (ys : List X). x ∷ ys) (one_dropped p xs at d (lone_tail p x xs lone) (omega (arith, within)) passes (λ k less. first (suc k) (omega (arith, less))))

-- ---- places

-- what a place tells: the first that passes stands there
at_first : {X : Type 0} (p : X → Bool) (xs : List X) (at : ℕ) → Some at ≡ position p xs → at ≡ position_or_len p xs
at_first p xs at is = by (nat_lt (position_or_len p xs) (length xs)) is
  where
    by : (b : Bool) → Some at ≡ cond b (Some (position_or_len p xs)) None → at ≡ position_or_len p xs
    by true e = cc
    by false e = absurd cc

nowhere : {X : Type 0} (p : X → Bool) (xs : List X) → None ≡ position p xs → length xs ≤ position_or_len p xs
nowhere p xs is = by (nat_lt (position_or_len p xs) (length xs)) refl is
  where
    by : (b : Bool) → nat_lt (position_or_len p xs) (length xs) ≡ b → None ≡ cond b (Some (position_or_len p xs)) None → length xs ≤ position_or_len p xs
    by true e f = absurd cc
    by false e f = grind (arith, e)

pub none_there : {X : Type 0} (p : X → Bool) (xs : List X) → None ≡ position p xs → list_any p xs ≡ false
none_there p xs is = list_any_none p xs (λ k d within. fails_before_first p xs k d (omega (arith, within, nowhere p xs is)))

found_there : {X : Type 0} (p : X → Bool) (xs : List X) (at : ℕ) (found : X) → Some at ≡ position p xs → slice_get xs at ≡ Some found → find p xs ≡ Some found
found_there p xs at found is has = find_at p xs ∙ ap (slice_get xs) (sym (at_first p xs at is)) ∙ has

found_nowhere : {X : Type 0} (p : X → Bool) (xs : List X) → None ≡ position p xs → find p xs ≡ None
found_nowhere p xs is = find_at p xs ∙ slice_get_past xs (position_or_len p xs) (nowhere p xs is)

-- ---- names

-- where names differ, one secret at most has a name
one_name : (name : List ℕ) (secrets : List Secret) → AllPairs (λ a b. a.name ≢ b.name) secrets → IsLone (has_name name) secrets
one_name name secrets differ = λ i j d less within passes. other i j d less within passes (has_name name (get_or secrets j d)) refl
  where
    other : (i j : ℕ) (d : Secret) → i < j → j < length secrets → has_name name (get_or secrets i d) ≡ true → (o : Bool) → has_name name (get_or secrets j d) ≡ o → o ≡ false
    other i j d less within passes false e = refl
    other i j d less within passes true e = absurd (differ i j d less within (same_bytes-true (get_or secrets i d).name name passes ∙ sym (same_bytes-true (get_or secrets j d).name name e)))

same_is : (xs ys : List ℕ) → bytes_eq xs ys ≡ same_bytes xs ys
same_is [] [] = refl
same_is [] (y ∷ ys) = refl
same_is (x ∷ xs) [] = refl
same_is (x ∷ xs) (y ∷ ys) = both (x == y) (bytes_eq xs ys) (same_bytes xs ys) (same_is xs ys)
  where
    both : (b one other : Bool) → one ≡ other → (b && one) ≡ (if b then other else false)
    both true one other e = e
    both false one other e = refl

pub named_is : {r : Bool} (read own name : List ℕ) → r ≡ bytes_eq read name → read ≡ own → r ≡ same_bytes own name
named_is read own name is same = is ∙ same_is read name ∙ ap (λ (xs : List ℕ). same_bytes xs name) same

-- ---- secrets that are put

-- where a secret has the name, there is no want of room
room_there : (name : List ℕ) (region : Region) → list_any (has_name name) region.secrets ≡ true → is_full_for name region ≡ false
room_there name region there = ap (λ (b : Bool). not b && nat_le 22 (length region.secrets)) there

put_named : (secret : Secret) (secrets : List Secret) → list_any (has_name secret.name) secrets ≡ true → with_secret secret secrets ≡ replaced (has_name secret.name) secret secrets
unfolding with_secret
put_named secret secrets there = ap (λ (b : Bool). if b then replaced (has_name secret.name) secret secrets else secrets ++ secret ∷ []) there

put_last : (secret : Secret) (secrets : List Secret) → list_any (has_name secret.name) secrets ≡ false → with_secret secret secrets ≡ secrets ++ secret ∷ []
unfolding with_secret
put_last secret secrets none = ap (λ (b : Bool). if b then replaced (has_name secret.name) secret secrets else secrets ++ secret ∷ []) none

abbrev with_secrets : Region → List Secret → Region
with_secrets region secrets = record { secrets = secrets; keys = region.keys }

pub put_there : (secret : Secret) (region : Region) (name : List ℕ) (secrets new : List Secret) (at : ℕ) → IsKeptRegion region → name ≡ secret.name → secrets ≡ region.secrets
    → Some at ≡ position (has_name name) secrets → new ≡ slice_set region.secrets at secret → IsPut region secret (with_secrets region new)
put_there secret region name secrets new at is named read found set_is =
    let p : Secret → Bool = has_name secret.name in
    let found_in : Some at ≡ position p region.secrets = subst (λ (n : List ℕ). Some at ≡ position (has_name n) region.secrets) named (subst (λ (xs : List Secret). Some at ≡ position (has_name name) xs) read found) in
    let first = position-Some p region.secrets at secret (sym found_in) in
    let there : list_any p region.secrets ≡ true = list_any_at p region.secrets at secret first.0 first.1 in
    let set_in : replaced p secret region.secrets ≡ slice_set region.secrets at secret = one_replaced p secret region.secrets at secret (one_name secret.name region.secrets is.names) first.0 first.1 first.2 in
    record {
      room = room_there secret.name region there;
      is = ap (with_secrets region) (set_is ∙ sym set_in ∙ sym (put_named secret region.secrets there));
    }

pub put_after : (secret : Secret) (region : Region) (name : List ℕ) (secrets new : List Secret) → name ≡ secret.name → secrets ≡ region.secrets
    → None ≡ position (has_name name) secrets → length region.secrets < 22 → new ≡ region.secrets ++ secret ∷ [] → IsPut region secret (with_secrets region new)
put_after secret region name secrets new named read found few pushed =
    let p : Secret → Bool = has_name secret.name in
    let found_in : None ≡ position p region.secrets = subst (λ (n : List ℕ). None ≡ position (has_name n) region.secrets) named (subst (λ (xs : List Secret). None ≡ position (has_name name) xs) read found) in
    let none : list_any p region.secrets ≡ false = none_there p region.secrets found_in in
    record {
      room = few_there secret.name region few;
      is = ap (with_secrets region) (pushed ∙ sym (put_last secret region.secrets none));
    }
  where
    few_there : (name : List ℕ) (region : Region) → length region.secrets < 22 → is_full_for name region ≡ false
    few_there name region few = by (list_any (has_name name) region.secrets) (nat_le 22 (length region.secrets)) refl
      where
        by : (b full : Bool) → nat_le 22 (length region.secrets) ≡ full → (not b && full) ≡ false
        by true full e = refl
        by false true e = absurd (grind (arith, e, few))
        by false false e = refl

pub full_there : (region : Region) (name own : List ℕ) (secrets : List Secret) → name ≡ own → secrets ≡ region.secrets
    → None ≡ position (has_name name) secrets → 22 ≤ length region.secrets → is_full_for own region ≡ true
full_there region name own secrets named read found many =
    let found_in : None ≡ position (has_name own) region.secrets = subst (λ (n : List ℕ). None ≡ position (has_name n) region.secrets) named (subst (λ (xs : List Secret). None ≡ position (has_name name) xs) read found) in
    let none : list_any (has_name own) region.secrets ≡ false = none_there (has_name own) region.secrets found_in in
    ap (λ (b : Bool). not b && nat_le 22 (length region.secrets)) none ∙ le-leb 22 (length region.secrets) many

-- ---- secrets that are dropped

pub dropped_there : (region : Region) (name : List ℕ) (secrets new : List Secret) (at : ℕ) (old : Secret) → IsKeptRegion region → secrets ≡ region.secrets
    → Some at ≡ position (has_name name) secrets → new ≡ remove region.secrets at → IsDropped region name (with_secrets region new)
dropped_there region name secrets new at old is read found removed =
    let p : Secret → Bool = has_name name in
    let found_in : Some at ≡ position p region.secrets = subst (λ (xs : List Secret). Some at ≡ position p xs) read found in
    let first = position-Some p region.secrets at old (sym found_in) in
    let dropped_in : kept p region.secrets ≡ remove region.secrets at = one_dropped p region.secrets at old (one_name name region.secrets is.names) first.0 first.1 first.2 in
    record {
      there = list_any_at p region.secrets at old first.0 first.1;
      is = ap (with_secrets region) (removed ∙ sym dropped_in);
    }

pub absent_there : (region : Region) (name : List ℕ) (secrets : List Secret) → secrets ≡ region.secrets → None ≡ position (has_name name) secrets → list_any (has_name name) region.secrets ≡ false
absent_there region name secrets read found = none_there (has_name name) region.secrets (subst (λ (xs : List Secret). None ≡ position (has_name name) xs) read found)

-- ---- secrets that are told

pub told_there : (region : Region) (name : List ℕ) (secrets : List Secret) (at : ℕ) (found : Secret) → secrets ≡ region.secrets → Some at ≡ position (has_name name) secrets
    → slice_get region.secrets at ≡ Some found → reply.Value found.value ≡ value_reply (find (has_name name) region.secrets)
told_there region name secrets at found read is has =
    ap value_reply (sym (found_there (has_name name) region.secrets at found (subst (λ (xs : List Secret). Some at ≡ position (has_name name) xs) read is) has))

pub told_absent : (region : Region) (name : List ℕ) (secrets : List Secret) → secrets ≡ region.secrets → None ≡ position (has_name name) secrets
    → reply.Absent ≡ value_reply (find (has_name name) region.secrets)
told_absent region name secrets read is = ap value_reply (sym (found_nowhere (has_name name) region.secrets (subst (λ (xs : List Secret). None ≡ position (has_name name) xs) read is)))
