-- Keys of a row, one after another.
use Rattle.std.proofs.Common.{◌≡◌, ℕ, suc, ◌+◌, ◌<◌, ◌≤◌, Bool, true, false, cond, Some, None, List, [], ◌∷◌, length, filter, ◌++◌, find, take, drop, refl, sym, ap, ◌∙◌, lit≤, arith}
use Rattle.std.specs.List.{list_any}
use Rattle.mb_model.specs.declared.stored.Fate.TheVariants.{AddKey}
use Rattle.mb_model.specs.memories.Meaning.{keys_after_fate}
use Rattle.std.proofs.lemmas.List.{length-take-le, drop_all}
use Rattle.std.specs.Prelude.{if◌then◌else◌}
use Rattle.mb_model.specs.declared.region.RegionKey.{RegionKey}
use Rattle.mb_model.specs.machine.LayerEvents.{has_number}

-- a key, used once more where it has the number
abbrev pub once_more : ℕ → RegionKey → RegionKey
once_more number key = if has_number number key then record key { uses = key.uses + 1 } else key

filter_most : {A : Type 0} (p : A → Bool) (xs : List A) → length (filter p xs) ≤ length xs
filter_most p [] = lit≤ tt
filter_most p (x ∷ xs) =
    let rest : length (filter p xs) ≤ length xs = filter_most p xs in
    elim (p x) as (λ (b : Bool). length (cond b (x ∷ filter p xs) (filter p xs)) ≤ suc (length xs)) [ true ↦ omega arith | false ↦ omega arith ]

-- what passes a test among the items before an offset are no more than these
pub filter_below : {A : Type 0} (p : A → Bool) (xs : List A) (i : ℕ) → i < length xs → length xs ≤ 8 → length (filter p (take i xs)) < 8
filter_below p xs i lt le =
    let few = filter_most p (take i xs) in
    let size = length-take-le i xs (omega arith) in
    omega (arith, few, size)

-- ---- the first key of a number

pub find_here : {A : Type 0} (p : A → Bool) (xs : List A) (i : ℕ) (x : A) → drop i xs ≡ x ∷ drop (i + 1) xs → p x ≡ true → find p (drop i xs) ≡ Some x
find_here p xs i x e t = rw (e, t) refl

pub find_on : {A : Type 0} (p : A → Bool) (xs : List A) (i : ℕ) (x : A) → drop i xs ≡ x ∷ drop (i + 1) xs → p x ≡ false → find p (drop (i + 1) xs) ≡ find p (drop i xs)
find_on p xs i x e f = rw (e, f) refl

pub find_none : {A : Type 0} (p : A → Bool) (xs : List A) (i : ℕ) → length xs ≤ i → find p (drop i xs) ≡ None
find_none p xs i le =
    let none : drop i xs ≡ [] = drop_all i xs le in
    rw none refl

-- ---- a key more

pub added_there : (key : RegionKey) {keys slice : List RegionKey} → slice ≡ keys → true ≡ list_any (has_number key.number) slice → keys ≡ keys_after_fate (AddKey key) keys
added_there key {keys} {slice} s e =
    let there : list_any (has_number key.number) keys ≡ true = ap (list_any (has_number key.number)) (sym s) ∙ sym e in
    rw there refl

pub added_new : (key : RegionKey) {keys slice row : List RegionKey} → slice ≡ keys → false ≡ list_any (has_number key.number) slice → row ≡ keys ++ key ∷ [] → row ≡ keys_after_fate (AddKey key) keys
added_new key {keys} {slice} {row} s e put =
    let new : list_any (has_number key.number) keys ≡ false = ap (list_any (has_number key.number)) (sym s) ∙ sym e in
    rw new put
