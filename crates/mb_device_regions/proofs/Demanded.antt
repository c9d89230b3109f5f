-- What demands make of the secrets of a region is what they make of the state.
use Rattle.std.proofs.Common.{◌≡◌, ◌≢◌, ℕ, List, [], ◌∷◌, ◌++◌, map, Bool, true, false, Option, None, Some, inl, inr, refl, sym, ap, subst, ◌∙◌, arith, get_or, true≢false, zero, suc}
use Rattle.std.specs.Prelude.{not, AllPairs, if◌then◌else◌}
use Rattle.std.specs.List.{list_any}
use Rattle.std.proofs.lemmas.List.Elements.{All-map}
use Rattle.std.proofs.lemmas.List.Kept.{AllPairs-filter, AllPairs-cons}
use Rattle.std.proofs.lemmas.List.Quantifiers.{all_pairs_push}
use Rattle.std.proofs.lemmas.List.Folds.{list_any_at}
use Rattle.mb_format.proofs.Fields.{same_bytes-true, same_bytes-refl}
use Rattle.mb_model.specs.declared.region.Secret.{Secret}
use Rattle.mb_model.specs.declared.state.State.{State}
use Rattle.mb_model.specs.machine.Actions.{Demand, to_keep, to_drop}
use Rattle.mb_model.specs.declared.reply.Reply.TheVariants as reply
use Rattle.mb_model.specs.declared.reply.Refusal.TheVariants.{RegionFull}
use Rattle.mb_model.specs.machine.Refusals.{refusal_reply}
use Rattle.mb_model.specs.machine.Calls.{unless_refused, after_demands}
use Rattle.mb_model.specs.machine.LayerEvents.{Outcome, has_name, with_secret, is_full_for, put_event, drop_event}
use Rattle.mb_model.specs.owners.Log.{entries_of, number_of}
use Rattle.mb_model.specs.owners.Regions.{region_of}
use Rattle.mb_model.specs.records.RegionFormat.{secret_format}
use Rattle.mb_model_lemmas.proofs.DemandLemmas.{with_secrets}
use Rattle.mb_model_memory.proofs.StorableSteps.{put_region, drop_region}
use Rattle.mb_region.specs.Regions.{IsRegionSlot}
use Rattle.mb_device_regions.specs.Demands.{region_of_secrets, AreKept, KeepsIn, without_name, secrets_after, if_met, secrets_after_all}
use Rattle.mb_device_regions.proofs.Listing.{none_goes}

-- ---- one demand

abbrev put_secret_of : List ℕ → List ℕ → ℕ → Secret
put_secret_of name value born = record { name = name; value = value; born = born }

pub met_keep : (name value : List ℕ) (born : ℕ) (secrets after : List Secret) → KeepsIn (put_secret_of name value born) secrets true after
    → secrets_after born (to_keep name value) secrets ≡ Some after
met_keep name value born secrets after is =
    ap (λ (b : Bool). let o : Option (List Secret) = if b then None else Some (with_secret (put_secret_of name value born) secrets) in o) is.0 ∙ ap Some (sym is.1)

pub unmet_keep : (name value : List ℕ) (born : ℕ) (secrets after : List Secret) → KeepsIn (put_secret_of name value born) secrets false after
    → secrets_after born (to_keep name value) secrets ≡ None
unmet_keep name value born secrets after is =
    ap (λ (b : Bool). let o : Option (List Secret) = if b then None else Some (with_secret (put_secret_of name value born) secrets) in o) is

-- ---- secrets stay as a region keeps them

pairs_over : {X Y : Type 0} (R : X → X → Type 0) (S : Y → Y → Type 0) (f : X → Y) → ((a b : X) → R a b → S (f a) (f b)) → (xs : List X) → AllPairs R xs → AllPairs S (map f xs)
pairs_over R S f keeps [] pairs = λ i j d less within. absurd (omega (arith, within))
pairs_over R S f keeps (x ∷ xs) pairs =
    AllPairs-cons S (f x) (map f xs)
    (All-map (S (f x)) f xs (λ k d within. keeps _ _ (pairs zero (suc k) d (omega arith) (omega arith))))
    (pairs_over R S f keeps xs (λ i j d less within. pairs (suc i) (suc j) d (omega arith) (omega arith)))

kept_or : Secret → Secret → Secret
kept_or new old = if has_name new.name old then new else old

same_name : (new old : Secret) → (kept_or new old).name ≡ old.name
unfolding kept_or
same_name new old = by (has_name new.name old) refl
  where
    by : (b : Bool) → has_name new.name old ≡ b → (if b then new else old).name ≡ old.name
    by true e = sym (same_bytes-true old.name new.name e)
    by false e = refl

names_differ : (new : Secret) (secrets : List Secret) → AllPairs (λ a b. a.name ≢ b.name) secrets → AllPairs (λ a b. a.name ≢ b.name) (with_secret new secrets)
unfolding with_secret kept_or
names_differ new secrets differ = by (list_any (has_name new.name) secrets) refl
  where
    by : (b : Bool) → list_any (has_name new.name) secrets ≡ b → AllPairs (λ (a b : Secret). a.name ≢ b.name) (if b then map (kept_or new) secrets else secrets ++ new ∷ [])
    by true e =
        pairs_over (λ (a b : Secret). a.name ≢ b.name) (λ (a b : Secret). a.name ≢ b.name) (kept_or new) (λ a b apart same. apart (sym (same_name new a) ∙ same ∙ same_name new b)) secrets differ
    by false e =
        all_pairs_push (λ (a b : Secret). a.name ≢ b.name) secrets new differ
        (λ k d within same.
        let found : has_name new.name (get_or secrets k d) ≡ true = ap (λ ns. has_name new.name (put_secret_of ns ns 0)) same ∙ same_bytes-refl new.name in
        true≢false (sym (list_any_at (has_name new.name) secrets k d within found) ∙ e))

pub kept_put : (secret : Secret) (secrets after : List Secret) → secret_format.Allowed secret → AreKept secrets → KeepsIn secret secrets true after → AreKept after
kept_put secret secrets after allowed are is =
    subst AreKept (sym is.1) (record {
      storable = put_region secret (region_of_secrets secrets) allowed are.storable is.0;
      names = names_differ secret secrets are.names;
    })

pub kept_drop : (name : List ℕ) (secrets : List Secret) → AreKept secrets → AreKept (without_name name secrets)
kept_drop name secrets are = record {
  storable = drop_region name (region_of_secrets secrets) are.storable;
  names = AllPairs-filter (λ a b. a.name ≢ b.name) (λ secret. not (has_name name secret)) secrets are.names;
}

-- ---- all demands, of a state

-- the state with these secrets in the region of the layer, if the demands were met
abbrev pub met_state : State → ℕ → Option (List Secret) → Option State
met_state state layer None = None
met_state state layer (Some secrets) = Some (with_secrets state layer secrets)

abbrev pub born_in : State → ℕ
born_in state = number_of (entries_of state.log)

here : (L : ℕ) → IsRegionSlot L → (state : State) (secrets : List Secret) → (region_of (with_secrets state L secrets) L).secrets ≡ secrets
here L (inl same) state secrets = subst (λ (n : ℕ). (region_of (with_secrets state n secrets) n).secrets ≡ secrets) (sym same) refl
here L (inr same) state secrets = subst (λ (n : ℕ). (region_of (with_secrets state n secrets) n).secrets ≡ secrets) (sym same) refl

own : (L : ℕ) → IsRegionSlot L → (state : State) → state ≡ with_secrets state L (region_of state L).secrets
own L (inl same) state = subst (λ (n : ℕ). state ≡ with_secrets state n (region_of state n).secrets) (sym same) refl
own L (inr same) state = subst (λ (n : ℕ). state ≡ with_secrets state n (region_of state n).secrets) (sym same) refl

twice : (L : ℕ) → IsRegionSlot L → (state : State) (first second : List Secret) → with_secrets (with_secrets state L first) L second ≡ with_secrets state L second
twice L (inl same) state first second = subst (λ (n : ℕ). with_secrets (with_secrets state n first) n second ≡ with_secrets state n second) (sym same) refl
twice L (inr same) state first second = subst (λ (n : ℕ). with_secrets (with_secrets state n first) n second ≡ with_secrets state n second) (sym same) refl

met_twice : (L : ℕ) → IsRegionSlot L → (state : State) (first : List Secret) (met : Option (List Secret)) → met_state (with_secrets state L first) L met ≡ met_state state L met
met_twice L which state first None = refl
met_twice L which state first (Some second) = ap Some (twice L which state first second)

-- what follows a state with other secrets
follows : (L : ℕ) (later : List Demand) → IsRegionSlot L → (state : State) (new : List Secret)
    → after_demands L later (with_secrets state L new) ≡ met_state (with_secrets state L new) L (secrets_after_all (born_in state) later (region_of (with_secrets state L new) L).secrets)
    → after_demands L later (with_secrets state L new) ≡ met_state state L (secrets_after_all (born_in state) later new)
follows L later which state new rest =
    rest ∙ ap (λ (s : List Secret). met_state (with_secrets state L new) L (secrets_after_all (born_in state) later s)) (here L which state new)
    ∙ met_twice L which state new (secrets_after_all (born_in state) later new)

pub demands_met : (L : ℕ) (demands : List Demand) → IsRegionSlot L → (state : State)
    → after_demands L demands state ≡ met_state state L (secrets_after_all (born_in state) demands (region_of state L).secrets)
unfolding after_demands secrets_after_all put_event drop_event
demands_met L [] which state = ap Some (own L which state)
demands_met L (to_keep name value ∷ later) which state =
    let new : List Secret = with_secret (put_secret_of name value (born_in state)) (region_of state L).secrets in
    by (is_full_for name (region_of state L)) new (follows L later which state new (demands_met L later which (with_secrets state L new)))
  where
    by : (full : Bool) (new : List Secret) → after_demands L later (with_secrets state L new) ≡ met_state state L (secrets_after_all (born_in state) later new)
        → let o : Outcome = if full then (refusal_reply RegionFull, state) else (reply.Kept, with_secrets state L new) in
        let s : Option (List Secret) = if full then None else Some new in
        unless_refused o (λ next. after_demands L later next) ≡ met_state state L (if_met s (λ next. secrets_after_all (born_in state) later next))
    by true new rest = refl
    by false new rest = rest
demands_met L (to_drop name ∷ later) which state =
    let secrets : List Secret = (region_of state L).secrets in
    let others : List Secret = without_name name secrets in
    by (list_any (has_name name) secrets) refl (follows L later which state others (demands_met L later which (with_secrets state L others))) (demands_met L later which state)
  where
    by : (there : Bool) → list_any (has_name name) (region_of state L).secrets ≡ there
        → after_demands L later (with_secrets state L (without_name name (region_of state L).secrets)) ≡ met_state state L (secrets_after_all (born_in state) later (without_name name (region_of state L).secrets))
        → after_demands L later state ≡ met_state state L (secrets_after_all (born_in state) later (region_of state L).secrets)
        → let o : Outcome = if there then (reply.Dropped, with_secrets state L (without_name name (region_of state L).secrets)) else (reply.Absent, state) in
        unless_refused o (λ next. after_demands L later next) ≡ met_state state L (secrets_after_all (born_in state) later (without_name name (region_of state L).secrets))
    by true is rest stays = rest
    by false is rest stays =
        stays ∙ ap (λ (s : List Secret). met_state state L (secrets_after_all (born_in state) later s)) (sym (none_goes (has_name name) (region_of state L).secrets is))
