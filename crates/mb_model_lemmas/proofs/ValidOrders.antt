-- A state stays one that a device can have, when the device obeys an order.
use Rattle.std.proofs.Common.{◌≡◌, ◌≢◌, ◌<◌, ℕ, ◌+◌, List, [], ◌∷◌, length, Option, None, Some, Bool, true, false, refl, sym, ap, subst, ◌∙◌, arith}
use Rattle.std.specs.Prelude.{◌==◌, ◌&&◌, nat_lt, All, is_some, IsSome, IsSomeAnd, IsTrue, if◌then◌else◌}
use Rattle.std.specs.Option.{option_or}
use Rattle.std.specs.List.{list_any}
use Rattle.std.proofs.lemmas.List.Elements.{All-tail, All-head}
use Rattle.mb_model.specs.declared.layer.Layer.{Layer}
use Rattle.mb_model.specs.declared.layer.Layers.{Layers}
use Rattle.mb_model.specs.declared.layer.Pair.{Pair}
use Rattle.mb_model.specs.declared.order.Act.{Act}
use Rattle.mb_model.specs.declared.order.Act.TheVariants as act
use Rattle.mb_model.specs.declared.order.ChangeKind.{ChangeKind}
use Rattle.mb_model.specs.declared.order.ChangeKind.TheVariants.{Establish, Surrender, Load, Emergency}
use Rattle.mb_model.specs.declared.order.Countersignature.{Countersignature}
use Rattle.mb_model.specs.declared.order.KeyKind.{KeyKind}
use Rattle.mb_model.specs.declared.order.Order.{Order}
use Rattle.mb_model.specs.declared.entry.Entry.{Entry}
use Rattle.mb_model.specs.declared.entry.Entry.TheVariants.{Succession}
use Rattle.mb_model.specs.declared.state.Codes.{Codes}
use Rattle.mb_model.specs.declared.state.State.{State}
use Rattle.mb_model.specs.owners.Layers.{layer_of, is_layer_number}
use Rattle.mb_model.specs.owners.Rules.{kind_of, change_of, renews, Condition, CanPlace, layer_from_order, is_load, may_cosign, kept_regions, admits, after}
use Rattle.mb_model.specs.owners.Log.{figures_of, entries_of, layers_of, uses_of_device_key, has_version_two, Ruled}
use Rattle.mb_model.specs.signatures.Signing.{public_of}
use Rattle.mb_model.specs.owners.Regions.{region_of}
use Rattle.mb_model.specs.machine.OrderChecks.{IsCountersigned, view_of}
use Rattle.mb_model.specs.machine.OrderEffects.{next_key, state_after_succession, device_after, uses_after, code_after, codes_after, cosigners_of, next_device_key, state_after_change, state_after_new_key, entry_of, change_fact}
use Rattle.mb_model.specs.declared.state.Fact.TheVariants as fact
use Rattle.mb_model.specs.memories.Valid.{IsNamed, AreNamed, IsValidState}
use Rattle.mb_model_lemmas.specs.RegionLaws.{HasValidRegions}
use Rattle.mb_model_lemmas.proofs.RuleLemmas.{placed_can, version_two_may_follow}
use Rattle.mb_model_lemmas.proofs.ValidStates.{valid_is_ruled, succeeded_keeps, changed_keeps, keyed_keeps}
use Rattle.mb_model_lemmas.proofs.ValidLogs.{named_is_some, valid_after}

-- what holds of 1, 2 and 3, and of what is no number of a layer, holds of each number
pub each_number : (P : ℕ → Type 0) (m : ℕ) → P 1 → P 2 → P 3 → (is_layer_number m ≡ false → P m) → P m
each_number P m one two three other =
    (elim (m == 1) as (λ b. (m == 1) ≡ b → P m) [
      | true ↦ λ e. let same : 1 ≡ m = grind (arith, e) in subst P same one
      | false ↦ λ e. (elim (m == 2) as (λ b. (m == 2) ≡ b → P m) [
        | true ↦ λ f. let same : 2 ≡ m = grind (arith, f) in subst P same two
        | false ↦ λ f. (elim (m == 3) as (λ b. (m == 3) ≡ b → P m) [
          | true ↦ λ g. let same : 3 ≡ m = grind (arith, g) in subst P same three
          | false ↦ λ g. other (grind (arith, e, f, g))
        ]) refl
      ]) refl
    ]) refl

some_and : {X : Type 0} (o : Option X) (P : X → Type 0) → IsSomeAnd o P → IsSome o
some_and None P is = absurd is
some_and (Some x) P is = refl

pub condition_number : (layers : Layers) (kind : ChangeKind) (k : ℕ) → Condition layers (Some kind) k → IsTrue (is_layer_number k)
condition_number layers Establish k is = grind (arith, is)
condition_number layers Surrender k is = grind (arith, is)
condition_number layers Load k is = grind (arith, is)
condition_number layers Emergency k is = grind (arith, is)

-- ---- the layers and their code

-- the layer that a change puts in place stands in its place
pub own_layer : (layers : Layers) (kind : ChangeKind) (k : ℕ) (by : Pair) (new : Layer) → IsTrue (is_layer_number k) → layer_of (after layers kind k by new) k ≡ new
unfolding after
own_layer layers kind k by new is =
    each_number (λ m. k ≡ m → layer_of (after layers kind m by new) m ≡ new) k (λ e. refl) (λ e. refl) (λ e. refl) (λ none e. absurd (grind (arith, is, none))) refl

named_placed : (old : Layer) (code : Option (List ℕ)) (a : Act) → is_some (change_of (kind_of a)) ≡ true → IsNamed (layer_from_order old a).code (code_after code a)
named_placed old code (act.Establish owner trust) is = tt
named_placed old code act.Surrender is = tt
named_placed old code (act.Load payload) is = refl
named_placed old code (act.Emergency payload) is = refl
named_placed old code (act.NewKey kind) is = absurd (grind (arith, is))

named_after : (at at' beneath b : Bool) (old new : Layer) (code : Option (List ℕ)) (a : Act) → at ≡ at'
    → IsNamed new.code (code_after code a) → IsNamed old.code code
    → IsNamed (if at then new else if beneath then old else record old { reliable = old.reliable && b }).code (if at' then code_after code a else code)
named_after true true beneath b old new code a same is was = is
named_after true false beneath b old new code a same is was = absurd (grind (arith, same))
named_after false true beneath b old new code a same is was = absurd (grind (arith, same))
named_after false false true b old new code a same is was = was
named_after false false false b old new code a same is was = was

swapped : (m k : ℕ) → (m == k) ≡ (k == m)
swapped m k =
    (elim (m == k) as (λ b. (m == k) ≡ b → b ≡ (k == m)) [
      | true ↦ λ e. let same : m ≡ k = grind (arith, e) in subst (λ n. true ≡ (n == m)) same (grind arith)
      | false ↦ λ e. grind (arith, e)
    ]) refl

codes_follow : (layers : Layers) (codes : Codes) (kind : ChangeKind) (k : ℕ) (by : Pair) (a : Act) → change_of (kind_of a) ≡ Some kind
    → AreNamed layers codes → AreNamed (after layers kind k by (layer_from_order (layer_of layers k) a)) (codes_after codes k a)
unfolding after
codes_follow layers codes kind k by a is named =
    let new : Layer = layer_from_order (layer_of layers k) a in
    let some : is_some (change_of (kind_of a)) ≡ true = ap is_some is in
    record {
      one = named_after (1 == k) (k == 1) (nat_lt 1 k) (admits layers kind k by 1) layers.one new codes.one a (swapped 1 k) (named_placed (layer_of layers k) codes.one a some) named.one;
      two = named_after (2 == k) (k == 2) (nat_lt 2 k) (admits layers kind k by 2) layers.two new codes.two a (swapped 2 k) (named_placed (layer_of layers k) codes.two a some) named.two;
      three = named_after (3 == k) (k == 3) (nat_lt 3 k) (admits layers kind k by 3) layers.three new codes.three a (swapped 3 k) (named_placed (layer_of layers k) codes.three a some) named.three;
    }

-- ---- countersignatures

-- the order is a load, and the countersignature is of a layer above it
abbrev pub IsAbove : Option ChangeKind → ℕ → Countersignature → Type 0
IsAbove change k by = IsTrue (is_load change) × (k < by.layer)

any_with : {X : Type 0} (p : X → Bool) (P : X → Type 0) (xs : List X) → All P xs → list_any p xs ≡ true → (x : X) × (p x ≡ true) × P x
any_with p P [] all e = absurd (grind (arith, e))
any_with {X} p P (x ∷ xs) all e =
    (elim (p x) as (λ b. p x ≡ b → (y : X) × (p y ≡ true) × P y) [
      | true ↦ λ h. (x, h, All-head P x xs all)
      | false ↦ λ h. any_with p P xs (All-tail P x xs all) (grind (arith, e, h))
    ]) refl

-- a layer that countersigned may do so
pub cosigned_may : (state : State) (order : Order) (kind : ChangeKind) (m : ℕ) → change_of (kind_of order.act) ≡ Some kind
    → All (IsAbove (Some kind) order.layer) order.countersignatures → All (IsCountersigned (view_of state) order) order.countersignatures
    → list_any (λ by. by.layer == m) order.countersignatures ≡ true → IsTrue (may_cosign state.layers kind order.layer m)
cosigned_may state order kind m is above signed any =
    let P : Countersignature → Type 0 = λ by. IsAbove (Some kind) order.layer by × IsCountersigned (view_of state) order by in
    let found = any_with (λ (by : Countersignature). by.layer == m) P order.countersignatures (λ i d within. (above i d within, signed i d within)) any in
    let same : found.0.layer ≡ m = grind (arith, found.1) in
    let owner : IsSome (layer_of state.layers found.0.layer).owner = some_and (layer_of state.layers found.0.layer).owner _ found.2.1 in
    let owned : IsSome (layer_of state.layers m).owner = subst (λ n. IsSome (layer_of state.layers n).owner) same owner in
    grind (arith, owned, found.2.0.0, found.2.0.1, same)

-- ---- a succession

-- the regions of a valid state are valid
regions_of : (state : State) → IsValidState state → HasValidRegions state
regions_of state valid = record { two = valid.two; three = valid.three }

-- the state after a succession is valid, where the device key has its last index left
pub succeeded_valid : (state : State) (draw : List ℕ) → IsValidState state → uses_of_device_key (entries_of state.log) ≡ 31 → IsValidState (state_after_succession state draw)
unfolding state_after_succession
succeeded_valid state draw valid last =
    let entry : Entry = Succession (length state.log) (public_of (next_key (view_of state) draw)) in
    valid_after state entry (state_after_succession state draw) valid (named_is_some (entries_of state.log) (public_of state.device) valid.device, last) refl refl
    refl refl refl refl refl valid.codes (succeeded_keeps state draw (regions_of state valid))

-- ---- a change

device_named : (next : Bool) (state : State) (draw : List ℕ)
    → Some (public_of (device_after next (view_of state) draw)) ≡ option_or (next_device_key next (view_of state) draw) (Some (public_of state.device))
device_named true state draw = refl
device_named false state draw = refl

uses_counted : (next : Bool) (state : State) (draw : List ℕ)
    → uses_after next (view_of state) ≡ (if is_some (next_device_key next (view_of state) draw) then 0 else uses_of_device_key (entries_of state.log) + 1)
uses_counted true state draw = refl
uses_counted false state draw = refl

is_named_next : (next : Bool) (state : State) (draw : List ℕ) → is_some (next_device_key next (view_of state) draw) ≡ next
is_named_next true state draw = refl
is_named_next false state draw = refl

-- an order of a kind that may be given, in a state in which the device key has an index for it
pub record MayChange (state : State) (kind : ChangeKind) (order : Order) : Type 0 where
  pub kind_is : change_of (kind_of order.act) ≡ Some kind
  pub allowed : Condition state.layers (Some kind) order.layer
  pub above : All (IsAbove (Some kind) order.layer) order.countersignatures
  pub signed : All (IsCountersigned (view_of state) order) order.countersignatures
  pub index : uses_of_device_key (entries_of state.log) ≡ 31 → IsTrue (renews (Some kind) order.layer)

change_ruled : (state : State) (kind : ChangeKind) (order : Order) (draw : List ℕ) → IsValidState state → MayChange state kind order
    → Ruled (figures_of (entries_of state.log)) (entry_of (view_of state) (change_fact state.layers kind order) draw)
change_ruled state kind order draw valid may =
    let past : List Entry = entries_of state.log in
    let k : ℕ = order.layer in
    let by : Pair = cosigners_of order in
    let new : Layer = layer_from_order (layer_of state.layers k) order.act in
    let now : Layers = after state.layers kind k by new in
    let same : state.layers ≡ layers_of past = valid.layers in
    let own : layer_of now k ≡ new = own_layer state.layers kind k by new (condition_number state.layers kind k may.allowed) in
    let can : CanPlace kind (layer_of state.layers k) new = placed_can (layer_of state.layers k) order.act kind may.kind_is in (
      named_is_some past (public_of state.device) valid.device,
      record {
        counted = refl;
        renewed = is_named_next (renews (Some kind) k) state draw;
        last_index = λ h. is_named_next (renews (Some kind) k) state draw ∙ may.index h;
      },
      record {
        allowed = subst (λ (l : Layers). Condition l (Some kind) k) same may.allowed;
        placed = subst (λ (l : Layers). CanPlace kind (layer_of l k) (layer_of now k)) same (subst (CanPlace kind (layer_of state.layers k)) (sym own) can);
        changed = ap (after state.layers kind k by) (sym own) ∙ ap (λ (l : Layers). after l kind k by (layer_of now k)) same;
        countersigned = record {
          two = λ h. subst (λ (l : Layers). IsTrue (may_cosign l kind k 2)) same (cosigned_may state order kind 2 may.kind_is may.above may.signed h);
          three = λ h. subst (λ (l : Layers). IsTrue (may_cosign l kind k 3)) same (cosigned_may state order kind 3 may.kind_is may.above may.signed h);
        };
        regions = ap (λ (l : Layers). kept_regions l kind k by) same;
      },
      version_two_may_follow (has_version_two past) now,
    )

-- the state after a change is valid
pub changed_valid : (state : State) (kind : ChangeKind) (order : Order) (draw : List ℕ) → IsValidState state → MayChange state kind order
    → IsValidState (state_after_change state kind order draw)
unfolding state_after_change
changed_valid state kind order draw valid may =
    valid_after state (entry_of (view_of state) (change_fact state.layers kind order) draw) (state_after_change state kind order draw) valid (change_ruled state kind order draw valid may) refl refl
    refl refl refl
    (device_named (renews (Some kind) order.layer) state draw)
    (uses_counted (renews (Some kind) order.layer) state draw)
    (codes_follow state.layers state.codes kind order.layer (cosigners_of order) order.act may.kind_is valid.codes)
    (changed_keeps state kind order draw may.kind_is valid.layers (regions_of state valid))

-- ---- a new key

-- the state after a new key of layer 2 or 3 is valid
pub keyed_valid : (state : State) (L : ℕ) (kind : KeyKind) (draw : List ℕ) → IsValidState state
    → Condition state.layers None L → uses_of_device_key (entries_of state.log) ≢ 31 → length (region_of state L).keys < 8
    → IsValidState (state_after_new_key state L kind draw)
unfolding state_after_new_key
keyed_valid state L kind draw valid allowed index room =
    let past : List Entry = entries_of state.log in
    let entry : Entry = entry_of (view_of state) (fact.NewKey L kind) draw in
    let ruled : Ruled (figures_of past) entry = (
      named_is_some past (public_of state.device) valid.device,
      record {
        counted = refl;
        key_counted = refl;
        allowed = subst (λ (l : Layers). Condition l None L) valid.layers allowed;
        last_index = index;
      },
    ) in
    valid_after state entry (state_after_new_key state L kind draw) valid ruled refl refl refl refl refl refl refl valid.codes
    (keyed_keeps state L kind draw (valid_is_ruled state valid) allowed room (regions_of state valid))
