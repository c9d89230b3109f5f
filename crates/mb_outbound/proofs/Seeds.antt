-- Whose tree is kept, over what changes a region and leaves the seeds of its keys.
use Rattle.std.proofs.Common.{◌≡◌, ℕ, ◌+◌, ◌==◌, Bool, true, false, Option, None, Some, List, [], ◌∷◌, refl, sym, ap, subst, ◌∙◌, arith, eqb-true}
use Rattle.std.specs.Prelude.{find, if◌then◌else◌}
use Rattle.std.proofs.lemmas.Option.{same_Some}
use Rattle.mb_model.specs.declared.key.KeySeed.{KeySeed}
use Rattle.mb_model.specs.declared.region.Region.{Region}
use Rattle.mb_model.specs.declared.region.RegionKey.{RegionKey}
use Rattle.mb_model.specs.declared.state.State.{State}
use Rattle.mb_model.specs.machine.LayerEvents.{has_number, with_use}
use Rattle.mb_model.specs.owners.Regions.{region_of, with_region, empty_region}
use Rattle.mb_signer.specs.Tree.{IsTreeOf}
use Rattle.mb_outbound.specs.declared.kept.RegionTree.{RegionTree}
use Rattle.mb_outbound.specs.Binding.{IsBound}
use Rattle.mb_outbound.specs.KeptTrees.{IfKeptFor, IsKeysTree, IsKeptIn}

-- ---- the seed of a key

abbrev seed_in : Option RegionKey → Option KeySeed
seed_in None = None
seed_in (Some key) = Some key.seed

-- two finds that give one seed
seed_found : (old new : Option RegionKey) (key : RegionKey) → seed_in new ≡ seed_in old → new ≡ Some key → (before : RegionKey) × (old ≡ Some before) × (before.seed ≡ key.seed)
seed_found None new key same is = absurd (cc)
seed_found (Some before) new key same is = (before, refl, same_Some before.seed key.seed (sym same ∙ ap seed_in is))

-- ---- a region with the seeds that another has

-- each number finds the same seed in both
abbrev pub KeepsSeeds : Region → Region → Type 0
KeepsSeeds old new = (number : ℕ) → seed_in (find (has_number number) new.keys) ≡ seed_in (find (has_number number) old.keys)

found_by : (b : Bool) (one two : RegionKey) (more others : Option RegionKey) → one.seed ≡ two.seed → seed_in more ≡ seed_in others → seed_in (if b then Some one else more) ≡ seed_in (if b then Some two else others)
found_by true one two more others own rest = ap Some own
found_by false one two more others own rest = rest

used_head : (b : Bool) (number : ℕ) (key : RegionKey) (more others : List RegionKey) → seed_in (find (has_number number) more) ≡ seed_in (find (has_number number) others)
    → seed_in (find (has_number number) ((if b then record key { uses = key.uses + 1 } else key) ∷ more)) ≡ seed_in (find (has_number number) (key ∷ others))
used_head true number key more others rest = found_by (has_number number key) (record key { uses = key.uses + 1 }) key (find (has_number number) more) (find (has_number number) others) refl rest
used_head false number key more others rest = found_by (has_number number key) key key (find (has_number number) more) (find (has_number number) others) refl rest

-- one more use of a key
pub use_keeps_seeds : (used number : ℕ) (keys : List RegionKey) → seed_in (find (has_number number) (with_use used keys)) ≡ seed_in (find (has_number number) keys)
unfolding with_use
use_keeps_seeds used number [] = refl
use_keeps_seeds used number (key ∷ keys) = used_head (has_number used key) number key (with_use used keys) keys (use_keeps_seeds used number keys)

-- ---- a state with such a region

abbrev chosen : Bool → Bool → Region → Region → Region
chosen a b two three = if a then two else if b then three else empty_region

chosen_keeps : (a b c d : Bool) (two three region : Region) → (c ≡ true → d ≡ true → ⊥) → KeepsSeeds (chosen c d two three) region → KeepsSeeds (chosen a b two three) (chosen a b (if c then region else two) (if d then region else three))
chosen_keeps true b true d two three region apart same = same
chosen_keeps true b false d two three region apart same = λ number. refl
chosen_keeps false true true true two three region apart same = absurd (apart refl refl)
chosen_keeps false true false true two three region apart same = same
chosen_keeps false true c false two three region apart same = λ number. refl
chosen_keeps false false c d two three region apart same = λ number. refl

no_number_twice : (L : ℕ) → (L == 2) ≡ true → (L == 3) ≡ true → ⊥
no_number_twice L two three = omega (arith, eqb-true L 2 two, eqb-true L 3 three)

seeds_stay : (place L : ℕ) (state : State) (region : Region) → KeepsSeeds (region_of state L) region → KeepsSeeds (region_of state place) (region_of (with_region state L region) place)
seeds_stay place L state region same = chosen_keeps (place == 2) (place == 3) (L == 2) (L == 3) state.two state.three region (no_number_twice L) same

keys_tree_stays : (own : RegionTree) (L : ℕ) (region : Region) (state : State) → KeepsSeeds (region_of state L) region → IsKeysTree own state → IsKeysTree own (with_region state L region)
keys_tree_stays own L region state same is = record {
  tree = λ key found. (
      let before = seed_found (find (has_number own.number) (region_of state own.place).keys) (find (has_number own.number) (region_of (with_region state L region) own.place).keys) key (seeds_stay own.place L state region same own.number) found in
      subst (λ (seed : KeySeed). IsTreeOf seed own.tree) before.2 (is.tree before.0 before.1));
}

-- what is kept stays the key's
pub kept_stays : (kept : Option RegionTree) (L : ℕ) (region : Region) (state : State) → KeepsSeeds (region_of state L) region → IsKeptIn kept state → IsKeptIn kept (with_region state L region)
kept_stays None L region state same is = tt
kept_stays (Some own) L region state same is = keys_tree_stays own L region state same is

-- ---- a key that is bound

-- a tree that is kept for it is of the seed that was handed out
pub kept_is_bound : (kept : Option RegionTree) (L number right : ℕ) (seed : KeySeed) (state : State) → IsBound (region_of state L) number right seed → IsKeptIn kept state → IfKeptFor kept L number (λ own. IsTreeOf seed own.tree)
kept_is_bound None L number right seed state bound is = tt
kept_is_bound (Some own) L number right seed state bound is = λ at same. (
    let found : find (has_number own.number) (region_of state own.place).keys ≡ Some bound.key =
    subst (λ (n : ℕ). find (has_number n) (region_of state own.place).keys ≡ Some bound.key) (sym same)
    (subst (λ (p : ℕ). find (has_number number) (region_of state p).keys ≡ Some bound.key) (sym at) bound.has_use.found) in
    subst (λ (k : KeySeed). IsTreeOf k own.tree) (sym bound.seed) (is.tree bound.key found))

-- a tree of that seed is the key's
pub bound_is_keys : (own : RegionTree) (L number right : ℕ) (seed : KeySeed) (state : State) → own.place ≡ L → own.number ≡ number → IsTreeOf seed own.tree → IsBound (region_of state L) number right seed → IsKeysTree own state
bound_is_keys own L number right seed state at same tree bound = record {
  tree = λ key found. (
      let here : find (has_number number) (region_of state L).keys ≡ Some key =
      subst (λ (p : ℕ). find (has_number number) (region_of state p).keys ≡ Some key) at
      (subst (λ (n : ℕ). find (has_number n) (region_of state own.place).keys ≡ Some key) same found) in
      let one : bound.key ≡ key = same_Some bound.key key (sym bound.has_use.found ∙ here) in
      subst (λ (k : KeySeed). IsTreeOf k own.tree) (bound.seed ∙ ap (λ (k : RegionKey). k.seed) one) tree);
}
