-- The keys of a region by their numbers, and what is to be done to a region.
use Rattle.std.proofs.Common.{◌≡◌, ◌<◌, ◌≤◌, ◌+◌, ℕ, List, [], ◌∷◌, ◌++◌, map, Bool, true, false, cond, refl, sym, ap, subst, ◌∙◌, arith, Some, eq-eqb, ne_eqb}
use Rattle.std.specs.Prelude.{◌||◌, ◌==◌, filter, find, All, AllPairs, nat_lt, if◌then◌else◌}
use Rattle.std.specs.List.{list_any}
use Rattle.std.proofs.lemmas.List.{map-append}
use Rattle.std.proofs.lemmas.List.Elements.{All-head, All-tail, All-weaker}
use Rattle.std.proofs.lemmas.List.Folds.{list_any-append, list_any_none}
use Rattle.mb_model.specs.declared.layer.Layers.{Layers}
use Rattle.mb_model.specs.declared.layer.Pair.{Pair}
use Rattle.mb_model.specs.declared.order.ChangeKind.{ChangeKind}
use Rattle.mb_model.specs.declared.entry.Entry.{Entry}
use Rattle.mb_model.specs.declared.region.Region.{Region}
use Rattle.mb_model.specs.declared.region.RegionKey.{RegionKey}
use Rattle.mb_model.specs.declared.stored.Fate.{Fate}
use Rattle.mb_model.specs.declared.stored.Fate.TheVariants.{Keep, Empty, DropConfiguration, AddKey}
use Rattle.mb_model.specs.owners.Rules.{admits}
use Rattle.mb_model.specs.owners.Log.{keys_made_by, RuledLog}
use Rattle.mb_model.specs.owners.Lives.{MadeKey, alive_keys}
use Rattle.mb_model.specs.owners.Regions.{empty_region, is_epoch, without_configuration_keys, region_after, with_key}
use Rattle.mb_model.specs.machine.LayerEvents.{has_number, with_use}
use Rattle.mb_model.specs.memories.Meaning.{region_after_fate}
use Rattle.mb_model.specs.memories.Valid.{as_made}
use Rattle.mb_model.specs.machine.Fates.{change_fate}
use Rattle.mb_model_lemmas.proofs.AliveLemmas.{alive_increase, alive_below}
use Rattle.mb_model_lemmas.proofs.ListLemmas.{All-unmap, AllPairs-unmap, pairs_before, pairs_after}

-- ---- numbers

-- the keys of a region stand in the order of their numbers
pub keys_increase : (log : List Entry) (L : ℕ) (keys : List RegionKey) → RuledLog log → map as_made keys ≡ alive_keys log L → AllPairs (λ a b. a.number < b.number) keys
keys_increase log L keys ruled are =
    let R : MadeKey → MadeKey → Type 0 = λ a b. a.number < b.number in
    AllPairs-unmap R as_made keys (subst (AllPairs R) (sym are) (alive_increase log L ruled))

-- none of them has the number of the next key, or one above
pub high_is_not_there : (log : List Entry) (L n : ℕ) (keys : List RegionKey) → RuledLog log → map as_made keys ≡ alive_keys log L → keys_made_by log ≤ n → list_any (has_number n) keys ≡ false
high_is_not_there log L n keys ruled are high =
    let P : MadeKey → Type 0 = λ key. key.number < keys_made_by log in
    let below : All (λ (key : RegionKey). key.number < keys_made_by log) keys = All-unmap P as_made keys (subst (All P) (sym are) (alive_below log L ruled)) in
    list_any_none (has_number n) keys (All-weaker (λ key. key.number < keys_made_by log) (λ key. has_number n key ≡ false) (λ key less. ne_eqb key.number n (λ same. omega (arith, less, same, high))) keys below)

find-split : {X : Type 0} (p : X → Bool) (front : List X) (x : X) (rest : List X) → All (λ y. p y ≡ false) front → p x ≡ true → find p (front ++ x ∷ rest) ≡ Some x
find-split p [] x rest others own = ap (λ b. cond b (Some x) (find p rest)) own
find-split p (first ∷ front) x rest others own =
    ap (λ b. cond b (Some first) (find p (front ++ x ∷ rest))) (All-head (λ y. p y ≡ false) first front others)
    ∙ find-split p front x rest (All-tail (λ y. p y ≡ false) first front others) own

others_before : (front : List RegionKey) (key : RegionKey) (rest : List RegionKey) → AllPairs (λ a b. a.number < b.number) (front ++ key ∷ rest) → All (λ other. has_number key.number other ≡ false) front
others_before front key rest up =
    All-weaker (λ (other : RegionKey). other.number < key.number) (λ other. has_number key.number other ≡ false) (λ other less. ne_eqb other.number key.number (λ same. omega (arith, less, same))) front
    (pairs_before (λ (a b : RegionKey). a.number < b.number) front key rest up)

others_after : (front : List RegionKey) (key : RegionKey) (rest : List RegionKey) → AllPairs (λ a b. a.number < b.number) (front ++ key ∷ rest) → All (λ other. has_number key.number other ≡ false) rest
others_after front key rest up =
    All-weaker (λ (other : RegionKey). key.number < other.number) (λ other. has_number key.number other ≡ false) (λ other less. ne_eqb other.number key.number (λ same. omega (arith, less, same))) rest
    (pairs_after (λ (a b : RegionKey). a.number < b.number) front key rest up)

-- where numbers increase, a key is found by its number
pub found_by_number : (front : List RegionKey) (key : RegionKey) (rest : List RegionKey) → AllPairs (λ a b. a.number < b.number) (front ++ key ∷ rest)
    → find (has_number key.number) (front ++ key ∷ rest) ≡ Some key
found_by_number front key rest up = find-split (has_number key.number) front key rest (others_before front key rest up) (eq-eqb key.number key.number refl)

not_used : (number : ℕ) (keys : List RegionKey) → All (λ key. has_number number key ≡ false) keys → with_use number keys ≡ keys
unfolding with_use
not_used number [] others = refl
not_used number (key ∷ keys) others =
    ap (λ b. (if b then record key { uses = key.uses + 1 } else key) ∷ with_use number keys) (All-head (λ k. has_number number k ≡ false) key keys others)
    ∙ ap (λ more. key ∷ more) (not_used number keys (All-tail (λ k. has_number number k ≡ false) key keys others))

-- and used alone
pub used_by_number : (front : List RegionKey) (key : RegionKey) (rest : List RegionKey) → AllPairs (λ a b. a.number < b.number) (front ++ key ∷ rest)
    → with_use key.number (front ++ key ∷ rest) ≡ front ++ record key { uses = key.uses + 1 } ∷ rest
unfolding with_use
used_by_number front key rest up =
    let step : RegionKey → RegionKey = λ k. if has_number key.number k then record k { uses = k.uses + 1 } else k in
    let used : RegionKey = record key { uses = key.uses + 1 } in
    map-append step front (key ∷ rest)
    ∙ ap (λ more. more ++ map step (key ∷ rest)) (not_used key.number front (others_before front key rest up))
    ∙ ap (λ b. front ++ (if b then used else key) ∷ map step rest) (eq-eqb key.number key.number refl)
    ∙ ap (λ more. front ++ used ∷ more) (not_used key.number rest (others_after front key rest up))

-- ---- fates

kept_twice : {X : Type 0} (p : X → Bool) (xs : List X) → filter p (filter p xs) ≡ filter p xs
kept_twice p [] = refl
kept_twice p (x ∷ xs) = by (p x) refl (kept_twice p xs)
  where
    by : (b : Bool) → p x ≡ b → filter p (filter p xs) ≡ filter p xs → filter p (cond b (x ∷ filter p xs) (filter p xs)) ≡ cond b (x ∷ filter p xs) (filter p xs)
    by true own rest = ap (λ b. cond b (x ∷ filter p (filter p xs)) (filter p (filter p xs))) own ∙ ap (λ more. x ∷ more) rest
    by false own rest = rest

-- the keys with one more, unless its number is there
abbrev with_new : RegionKey → List RegionKey → List RegionKey
with_new key keys = if list_any (has_number key.number) keys then keys else keys ++ key ∷ []

added_twice : (key : RegionKey) (keys : List RegionKey) → with_new key (with_new key keys) ≡ with_new key keys
added_twice key keys = by (list_any (has_number key.number) keys) refl
  where
    by : (b : Bool) → list_any (has_number key.number) keys ≡ b → with_new key (if b then keys else keys ++ key ∷ []) ≡ (if b then keys else keys ++ key ∷ [])
    by true there = ap (λ b. if b then keys else keys ++ key ∷ []) there
    by false there =
        let own : list_any (has_number key.number) (keys ++ key ∷ []) ≡ true =
        list_any-append (has_number key.number) keys (key ∷ [])
        ∙ ap (λ b. b || ((key.number == key.number) || false)) there
        ∙ ap (λ b. b || false) (eq-eqb key.number key.number refl)
        in
        ap (λ b. if b then keys ++ key ∷ [] else (keys ++ key ∷ []) ++ key ∷ []) own

-- a fate that is done twice is done once
pub fated_twice : (fate : Fate) (region : Region) → region_after_fate fate (region_after_fate fate region) ≡ region_after_fate fate region
unfolding region_after_fate
fated_twice Keep region = refl
fated_twice Empty region = refl
fated_twice DropConfiguration region = ap (λ keys. let r : Region = record { secrets = region.secrets; keys = keys } in r) (kept_twice (λ key. is_epoch key.kind) region.keys)
fated_twice (AddKey key) region = ap (λ keys. let r : Region = record { secrets = region.secrets; keys = keys } in r) (added_twice key region.keys)

-- where a region is kept, it stays as it is
pub kept_as_before : (region : Region) → region_after_fate Keep region ≡ region
unfolding region_after_fate
kept_as_before region = refl

-- a change has such a fate for each region
pub change_is_fate : (layers : Layers) (kind : ChangeKind) (k : ℕ) (cosigned : Pair) (L : ℕ) (region : Region)
    → region_after layers kind k cosigned L region ≡ region_after_fate (change_fate layers kind k cosigned L) region
unfolding region_after_fate
change_is_fate layers kind k cosigned L region = by (nat_lt L k) (admits layers kind k cosigned L)
  where
    by : (beneath agrees : Bool) → (if beneath then region else if agrees then without_configuration_keys region else empty_region) ≡ region_after_fate (if beneath then Keep else if agrees then DropConfiguration else Empty) region
    by true agrees = refl
    by false true = refl
    by false false = refl

-- a new key is added, where none has its number
pub new_key_is_fate : (key : RegionKey) (region : Region) → list_any (has_number key.number) region.keys ≡ false → with_key key region ≡ region_after_fate (AddKey key) region
unfolding region_after_fate
new_key_is_fate key region none =
    sym (ap (λ b. let r : Region = record { secrets = region.secrets; keys = if b then region.keys else region.keys ++ key ∷ [] } in r) none)
