-- What demands leave of a state, and which key a call finds.
use Rattle.std.proofs.Common.{◌≡◌, ◌≢◌, ℕ, ◌==◌, List, [], ◌∷◌, Option, None, Some, Bool, true, false, refl, sym, ap, ◌∙◌, subst, arith, eqb-true}
use Rattle.std.specs.Prelude.{Result, Ok, Err, not, nat_le, find, filter, if◌then◌else◌}
use Rattle.std.specs.List.{list_any}
use Rattle.mb_model.specs.declared.region.Region.{Region}
use Rattle.mb_model.specs.declared.region.RegionKey.{RegionKey}
use Rattle.mb_model.specs.declared.region.Secret.{Secret}
use Rattle.mb_model.specs.declared.reply.Refusal.{Refusal}
use Rattle.mb_model.specs.declared.reply.Refusal.TheVariants.{KeySpent}
use Rattle.mb_model.specs.declared.state.State.{State}
use Rattle.mb_model.specs.machine.Actions.{Demand, to_keep, to_drop}
use Rattle.mb_model.specs.machine.Calls.{refuses, usable_key, key_for, demand_outcome, after_demands}
use Rattle.mb_model.specs.machine.LayerEvents.{Outcome, has_name, has_number, is_full_for, put_event, drop_event}
use Rattle.mb_model.specs.owners.Regions.{empty_region, region_of, with_region}
use Rattle.mb_model_lemmas.proofs.ListLemmas.{found_is}
use Rattle.mb_model_lemmas.proofs.ValidSteps.{unless_met}

-- ---- what a demand leaves

-- the regions by number, where two and three are these
numbered : (at_two at_three : Bool) (two three : Region) → Region
numbered at_two at_three two three = if at_two then two else if at_three then three else empty_region

apart : (here_two here_three there_two there_three : Bool) (two three new : Region) → (here_two ≡ true → there_two ≡ false) → (here_three ≡ true → there_three ≡ false)
    → numbered here_two here_three (if there_two then new else two) (if there_three then new else three) ≡ numbered here_two here_three two three
unfolding numbered
apart true here_three there_two there_three two three new not_two not_three = ap (λ b. if b then new else two) (not_two refl)
apart false true there_two there_three two three new not_two not_three = ap (λ b. if b then new else three) (not_three refl)
apart false false there_two there_three two three new not_two not_three = refl

differs : (layer other n : ℕ) → layer ≢ other → (layer == n) ≡ true → (other == n) ≡ false
differs layer other n apart is = grind (arith, apart, is)

-- another layer's region stays
pub other_stays : (state : State) (layer other : ℕ) (new : Region) → layer ≢ other → region_of (with_region state other new) layer ≡ region_of state layer
unfolding numbered
other_stays state layer other new differ =
    apart (layer == 2) (layer == 3) (other == 2) (other == 3) state.two state.three new (differs layer other 2 differ) (differs layer other 3 differ)

-- it leaves the layers, the keys of its region, and every other region
pub record Spares (layer : ℕ) (before after : State) : Type 0 where
  pub layers : after.layers ≡ before.layers
  pub keys : (region_of after layer).keys ≡ (region_of before layer).keys
  pub others : (other : ℕ) → other ≢ layer → region_of after other ≡ region_of before other

either_spares : (layer : ℕ) (state : State) (b : Bool) (x y : Outcome) → Spares layer state x.1 → Spares layer state y.1 → Spares layer state (if b then x else y).1
either_spares layer state true x y first second = first
either_spares layer state false x y first second = second

pub nothing_spares : (layer : ℕ) (state : State) → Spares layer state state
nothing_spares layer state = record { layers = refl; keys = refl; others = λ other apart. refl }

keys_there : (a b : Bool) (two three : Region) (secrets : List Secret)
    → let new : Region = record (if a then two else if b then three else empty_region) { secrets = secrets } in
    (if a then (if a then new else two) else if b then (if b then new else three) else empty_region).keys
    ≡ (if a then two else if b then three else empty_region).keys
keys_there true b two three secrets = refl
keys_there false true two three secrets = refl
keys_there false false two three secrets = refl

secrets_spare : (layer : ℕ) (state : State) (secrets : List Secret) → Spares layer state (with_region state layer (record (region_of state layer) { secrets = secrets }))
secrets_spare layer state secrets = record {
  layers = refl;
  keys = keys_there (layer == 2) (layer == 3) state.two state.three secrets;
  others = λ other apart. other_stays state other layer _ apart;
}

pub demand_spares : (layer : ℕ) (demand : Demand) (state : State) → Spares layer state (demand_outcome layer demand state).1
unfolding put_event drop_event
demand_spares layer (to_keep name value) state =
    either_spares layer state (is_full_for name (region_of state layer)) _ _ (nothing_spares layer state) (secrets_spare layer state _)
demand_spares layer (to_drop name) state =
    either_spares layer state (list_any (has_name name) (region_of state layer).secrets) _ _ (secrets_spare layer state _) (nothing_spares layer state)

-- demands that are met leave as much
pub demands_spare : (layer : ℕ) (demands : List Demand) (state done : State) → after_demands layer demands state ≡ Some done → Spares layer state done
unfolding after_demands
demands_spare layer [] state done met = subst (Spares layer state) (same_some state done met) (nothing_spares layer state)
  where
    same_some : (a b : State) → Some a ≡ Some b → a ≡ b
    same_some a b e = cc
demands_spare layer (demand ∷ later) state done met =
    let outcome : Outcome = demand_outcome layer demand state in
    let spared : Spares layer state outcome.1 = demand_spares layer demand state in
    let onwards = demands_spare layer later outcome.1 done (unless_met (refuses outcome.0) (after_demands layer later outcome.1) done met) in
    record {
      layers = onwards.layers ∙ spared.layers;
      keys = onwards.keys ∙ spared.keys;
      others = λ other apart. onwards.others other apart ∙ spared.others other apart;
    }

-- ---- demands change the secrets of their region alone

-- the state with these secrets in a region
abbrev pub with_secrets : State → ℕ → List Secret → State
with_secrets state layer secrets = with_region state layer (record (region_of state layer) { secrets = secrets })

-- the state comes to have these secrets in the region of a layer
abbrev pub ChangesSecrets : ℕ → State → State → Type 0
ChangesSecrets layer before after = (secrets : List Secret) × (after ≡ with_secrets before layer secrets)

own_secrets : (a b : Bool) (state : State) → (a ≡ true → b ≡ false)
    → let here : Region = if a then state.two else if b then state.three else empty_region in
    let new : Region = record here { secrets = here.secrets } in
    state ≡ record state { two = if a then new else state.two; three = if b then new else state.three }
own_secrets true true state differ = absurd (grind (arith, differ refl))
own_secrets true false state differ = refl
own_secrets false true state differ = refl
own_secrets false false state differ = refl

-- the state with these secrets in region two or three, as they are at hand
set_here : (a b : Bool) → State → List Secret → State
set_here a b state secrets =
    let new : Region = record (if a then state.two else if b then state.three else empty_region) { secrets = secrets } in
    record state { two = if a then new else state.two; three = if b then new else state.three }

set_twice : (a b : Bool) (state : State) (first second : List Secret) → set_here a b (set_here a b state first) second ≡ set_here a b state second
unfolding set_here
set_twice true true state first second = refl
set_twice true false state first second = refl
set_twice false true state first second = refl
set_twice false false state first second = refl

secrets_twice : (layer : ℕ) (state : State) (first second : List Secret) → with_secrets (with_secrets state layer first) layer second ≡ with_secrets state layer second
unfolding set_here
secrets_twice layer state first second = set_twice (layer == 2) (layer == 3) state first second

no_change : (layer : ℕ) (state : State) → ChangesSecrets layer state state
no_change layer state = ((region_of state layer).secrets, own_secrets (layer == 2) (layer == 3) state (λ two. grind (arith, two)))

either_changes : (layer : ℕ) (state : State) (b : Bool) (x y : Outcome) → ChangesSecrets layer state x.1 → ChangesSecrets layer state y.1 → ChangesSecrets layer state (if b then x else y).1
either_changes layer state true x y first second = first
either_changes layer state false x y first second = second

demand_changes : (layer : ℕ) (demand : Demand) (state : State) → ChangesSecrets layer state (demand_outcome layer demand state).1
unfolding put_event drop_event
demand_changes layer (to_keep name value) state = either_changes layer state (is_full_for name (region_of state layer)) _ _ (no_change layer state) (_, refl)
demand_changes layer (to_drop name) state = either_changes layer state (list_any (has_name name) (region_of state layer).secrets) _ _ (_, refl) (no_change layer state)

pub demands_change : (layer : ℕ) (demands : List Demand) (state done : State) → after_demands layer demands state ≡ Some done → ChangesSecrets layer state done
unfolding after_demands
demands_change layer [] state done met = subst (ChangesSecrets layer state) (same_some state done met) (no_change layer state)
  where
    same_some : (a b : State) → Some a ≡ Some b → a ≡ b
    same_some a b e = cc
demands_change layer (demand ∷ later) state done met =
    let outcome : Outcome = demand_outcome layer demand state in
    let first = demand_changes layer demand state in
    let onwards = demands_change layer later outcome.1 done (unless_met (refuses outcome.0) (after_demands layer later outcome.1) done met) in
    (onwards.0, onwards.1 ∙ ap (λ (s : State). with_secrets s layer onwards.0) first.1 ∙ secrets_twice layer state first.0 onwards.0)

-- ---- the key

fresh : (found : Option RegionKey) (key : RegionKey) → usable_key found ≡ Ok (Some key) → (found ≡ Some key) × (nat_le 32 key.uses ≡ false)
fresh None key e = absurd (grind (arith, e))
fresh (Some other) key e = by (nat_le 32 other.uses) refl e
  where
    same : (a b : RegionKey) → ◌≡◌ {A = Result (Option RegionKey) Refusal} (Ok (Some a)) (Ok (Some b)) → a ≡ b
    same a b e = cc

    by : (b : Bool) → nat_le 32 other.uses ≡ b → ◌≡◌ {A = Result (Option RegionKey) Refusal} (if b then Err KeySpent else Ok (Some other)) (Ok (Some key)) → (Some other ≡ Some key) × (nat_le 32 key.uses ≡ false)
    by true is e = absurd (grind (arith, e))
    by false is e = (ap Some (same other key e), subst (λ (k : RegionKey). nat_le 32 k.uses ≡ false) (same other key e) is)

-- a key that is found by a number has it
found_number : (number : ℕ) (keys : List RegionKey) (key : RegionKey) → find (has_number number) keys ≡ Some key → key.number ≡ number
found_number number keys key is = eqb-true key.number number (found_is (has_number number) keys key is).1

-- the key that is found was asked for by its number
pub record IsAsked (asked : Option ℕ) (keys : List RegionKey) (key : RegionKey) : Type 0 where
  pub number : ℕ
  pub asked_is : asked ≡ Some number
  pub found : find (has_number number) keys ≡ Some key
  pub number_is : key.number ≡ number
  pub left : nat_le 32 key.uses ≡ false

pub key_asked : (asked : Option ℕ) (region : Region) (key : RegionKey) → key_for asked region ≡ Ok (Some key) → IsAsked asked region.keys key
key_asked None region key e = absurd (grind (arith, e))
key_asked (Some number) region key e =
    let is = fresh (find (has_number number) region.keys) key e in
    record { number = number; asked_is = refl; found = is.0; number_is = found_number number region.keys key is.0; left = is.1 }
