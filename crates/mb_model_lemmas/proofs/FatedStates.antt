-- What an order leaves of both regions, as fates; and a region's keys, which are those alive by the log.
use Rattle.std.proofs.Common.{◌≡◌, ℕ, List, [], ◌∷◌, map, inl, inr, refl, sym, ap, subst, ◌∙◌, arith}
use Rattle.std.specs.Prelude.{IsTrue, Contains}
use Rattle.std.proofs.lemmas.List.{get_or-map, length-map}
use Rattle.std.proofs.lemmas.List.Elements.{All-nil, All-cons, All-contains, Contains-append_right, Contains-append_cases}
use Rattle.mb_model.specs.declared.key.PublicKey.{PublicKey}
use Rattle.mb_model.specs.declared.layer.Layers.{Layers}
use Rattle.mb_model.specs.declared.order.ChangeKind.{ChangeKind}
use Rattle.mb_model.specs.declared.order.KeyKind.{KeyKind}
use Rattle.mb_model.specs.declared.order.Order.{Order}
use Rattle.mb_model.specs.declared.entry.Entry.{Entry}
use Rattle.mb_model.specs.declared.region.Region.{Region}
use Rattle.mb_model.specs.declared.region.RegionKey.{RegionKey}
use Rattle.mb_model.specs.declared.state.State.{State}
use Rattle.mb_model.specs.declared.stored.Fate.TheVariants.{AddKey}
use Rattle.mb_model.specs.owners.Layers.{is_upper}
use Rattle.mb_model.specs.owners.Log.{entries_of, keys_made_by, RuledLog}
use Rattle.mb_model.specs.owners.Lives.{Alive, MadeKey}
use Rattle.mb_model.specs.owners.Regions.{with_key}
use Rattle.mb_model.specs.signatures.Signing.{public_of}
use Rattle.mb_model.specs.machine.OrderChecks.{view_of}
use Rattle.mb_model.specs.machine.OrderEffects.{next_key, key_made, cosigners_of, state_after_change}
use Rattle.mb_model.specs.machine.OrderEffects.{state_after_new_key}
use Rattle.mb_model.specs.memories.Meaning.{region_after_fate}
use Rattle.mb_model.specs.memories.Valid.{as_made, IsValidRegion}
use Rattle.mb_model.specs.machine.Fates.{change_fate, key_fate}
use Rattle.mb_model_lemmas.specs.RegionLaws.{HasValidRegions, AreFated}
use Rattle.mb_model_lemmas.proofs.RegionLemmas.{at_upper}
use Rattle.mb_model_lemmas.proofs.AliveLemmas.{alive_is_listed, listed_is_alive}
use Rattle.mb_model_lemmas.proofs.FateLemmas.{high_is_not_there, kept_as_before, change_is_fate, new_key_is_fate}

-- an order that changes a layer
pub changed_is_fated : (state : State) (kind : ChangeKind) (order : Order) (draw : List ℕ)
    → AreFated state (state_after_change state kind order draw) (change_fate state.layers kind order.layer (cosigners_of order) 2) (change_fate state.layers kind order.layer (cosigners_of order) 3)
unfolding state_after_change
changed_is_fated state kind order draw = record {
  two_is = change_is_fate state.layers kind order.layer (cosigners_of order) 2 state.two;
  three_is = change_is_fate state.layers kind order.layer (cosigners_of order) 3 state.three;
}

-- the next key is added to a region whose keys are those alive by the log
added : (log : List Entry) (layers : Layers) (L : ℕ) (region : Region) (key : RegionKey) → RuledLog log → IsValidRegion log layers L region → key.number ≡ keys_made_by log
    → with_key key region ≡ region_after_fate (AddKey key) region
added log layers L region key ruled valid is =
    new_key_is_fate key region (high_is_not_there log L key.number region.keys ruled valid.keys (omega (arith, is)))

-- an order that makes a key
pub keyed_is_fated : (state : State) (L : ℕ) (kind : KeyKind) (draw : List ℕ) (key : RegionKey) → IsTrue (is_upper L) → RuledLog (entries_of state.log) → HasValidRegions state
    → key ≡ key_made (view_of state) kind draw
    → AreFated state (state_after_new_key state L kind draw) (key_fate L key 2) (key_fate L key 3)
unfolding state_after_new_key
keyed_is_fated state L kind draw key upper ruled valid is =
    let past : List Entry = entries_of state.log in
    let own : RegionKey = record { number = keys_made_by past; kind = kind; seed = next_key (view_of state) draw; uses = 0 } in
    let number_is : key.number ≡ keys_made_by past = ap (λ (k : RegionKey). k.number) is in
    at_upper (λ m. AreFated state (state_after_new_key state m kind draw) (key_fate m key 2) (key_fate m key 3)) L upper
    (record {
      two_is = ap (λ (k : RegionKey). with_key k state.two) (sym is) ∙ added past state.layers 2 state.two key ruled valid.two number_is;
      three_is = sym (kept_as_before state.three);
    })
    (record {
      two_is = sym (kept_as_before state.two);
      three_is = ap (λ (k : RegionKey). with_key k state.three) (sym is) ∙ added past state.layers 3 state.three key ruled valid.three number_is;
    })

-- ---- keys and the log

contains_mapped : {X Y : Type 0} (f : X → Y) (xs : List X) (x : X) → Contains xs x → Contains (map f xs) (f x)
contains_mapped f xs x within =
    (within.0, omega (arith, within.1, length-map xs f), get_or-map f xs within.0 x (f x) within.1 ∙ ap f within.2)

contains_unmapped : {X Y : Type 0} (f : X → Y) (xs : List X) (y : Y) → Contains (map f xs) y → (x : X) × Contains xs x × (f x ≡ y)
contains_unmapped f [] y within = absurd (omega (arith, within.1))
contains_unmapped f (x ∷ xs) y within =
    elim (Contains-append_cases (f x ∷ []) (map f xs) y within) [
      | inl first ↦ (x, (0, omega arith, refl), All-contains (λ z. f x ≡ z) (f x ∷ []) y (All-cons (λ z. f x ≡ z) (f x) [] refl (All-nil (λ z. f x ≡ z))) first)
      | inr later ↦
          let found = contains_unmapped f xs y later in
          (found.0, Contains-append_right (x ∷ []) xs found.0 found.1, found.2)
    ]

-- a key that stands in a valid region is alive by its log
pub region_key_lives : (log : List Entry) (layers : Layers) (L : ℕ) (region : Region) (key : RegionKey) → IsValidRegion log layers L region
    → Contains region.keys key → Alive log key.number L key.kind (public_of key.seed)
region_key_lives log layers L region key valid within =
    listed_is_alive log key.number L key.kind (public_of key.seed) (subst (λ keys. Contains keys (as_made key)) valid.keys (contains_mapped as_made region.keys key within))

-- and a key that is alive by the log stands there
pub living_key_stands : (log : List Entry) (layers : Layers) (L : ℕ) (region : Region) (n : ℕ) (kind : KeyKind) (public : PublicKey) → IsValidRegion log layers L region
    → Alive log n L kind public
    → (key : RegionKey) × Contains region.keys key × (as_made key ≡ record { number = n; kind = kind; key = public })
living_key_stands log layers L region n kind public valid alive =
    let own : MadeKey = record { number = n; kind = kind; key = public } in
    contains_unmapped as_made region.keys own (subst (λ keys. Contains keys own) (sym valid.keys) (alive_is_listed log n L kind public alive))
