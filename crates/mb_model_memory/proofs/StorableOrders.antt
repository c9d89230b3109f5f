-- What an order that passes leaves can be stored.
use Rattle.std.proofs.Common.{◌≡◌, ℕ, ◌+◌, ◌≤◌, ◌<◌, List, [], ◌∷◌, length, Some, Bool, true, false, refl, sym, subst, arith, length-append}
use Rattle.std.specs.Prelude.{◌==◌, nat_lt, All, IsSome, if◌then◌else◌}
use Rattle.std.specs.Int.{w32}
use Rattle.std.proofs.lemmas.List.Elements.{All-nil, All-push, All-filter}
use Rattle.std.proofs.lemmas.List.Sums.{length-filter, count_by-le-length}
use Rattle.mb_format.specs.Combinators.{limit, optional}
use Rattle.mb_model.specs.declared.layer.Layers.{Layers}
use Rattle.mb_model.specs.declared.layer.Pair.{Pair}
use Rattle.mb_model.specs.declared.order.Act.{Act}
use Rattle.mb_model.specs.declared.order.Act.TheVariants as act
use Rattle.mb_model.specs.declared.order.ChangeKind.{ChangeKind}
use Rattle.mb_model.specs.declared.order.ChangeKind.TheVariants.{Establish, Surrender, Load, Emergency}
use Rattle.mb_model.specs.declared.order.KeyKind.{KeyKind}
use Rattle.mb_model.specs.declared.order.Order.{Order}
use Rattle.mb_model.specs.declared.order.OrderKind.{OrderKind}
use Rattle.mb_model.specs.declared.order.OrderKind.TheVariants as kinds
use Rattle.mb_model.specs.declared.entry.Entry.{Entry}
use Rattle.mb_model.specs.declared.region.Region.{Region}
use Rattle.mb_model.specs.declared.region.RegionKey.{RegionKey}
use Rattle.mb_model.specs.declared.state.State.{State}
use Rattle.mb_model.specs.owners.Layers.{layer_of}
use Rattle.mb_model.specs.owners.Rules.{kind_of, change_of, least_layer, MayBeFor, is_load, renews, Condition, layer_from_order, after, admits, kept_regions}
use Rattle.mb_model.specs.owners.Log.{entries_of, number_of, uses_of_device_key, keys_made_by}
use Rattle.mb_model.specs.owners.Regions.{empty_region, is_epoch, without_configuration_keys, region_after, with_key}
use Rattle.mb_model.specs.records.KeyFormat.{public_key_format, key_seed_format}
use Rattle.mb_model.specs.records.LayerFormat.{layer_format, layers_format}
use Rattle.mb_model.specs.records.EntryFormat.{entry_format, signed_entry_format}
use Rattle.mb_model.specs.records.RootFormat.{region_key_format}
use Rattle.mb_model.specs.records.OrderFormat.{differs_in, act_by, body_format, order_format}
use Rattle.mb_model_lemmas.proofs.ValidSteps.{region_keys_are}
use Rattle.mb_model.specs.owners.Regions.{region_of, with_region}
use Rattle.mb_model.specs.machine.OrderChecks.{change_by, needs_succession, RegionHasRoom, Passes, view_of}
use Rattle.mb_model.specs.machine.OrderEffects.{entry_signed_by, log_with, state_after_succession, device_after, cosigners_of, next_device_key, state_after_change, key_made, state_after_new_key, ready_for, state_after_act, state_after_order, succession_entry, entry_of, change_fact}
use Rattle.mb_model.specs.declared.state.Fact.TheVariants as fact
use Rattle.mb_model.proofs.Passed.{passed}
use Rattle.mb_model.proofs.AllowedFields.{region_key_allowed_by, change_allowed_by, new_key_allowed_by}
use Rattle.mb_model_lemmas.proofs.LogLemmas.{number_of-le-length, made-le-length, length-entries_of}
use Rattle.mb_model_memory.specs.Storable.{IsStorableRegion, IsStorableState}
use Rattle.mb_model_memory.proofs.CommitLemmas.{kept_ready, succeeded_layers}
use Rattle.mb_model_memory.proofs.StorableFormats.{small_number, some_allowed, none_allowed, born_seed_allowed, born_public_allowed, layer_of-allowed, after_allowed, placed_allowed, codes_after_allowed, succession_allowed, signed_allowed}

-- ---- regions

pub empty_storable : IsStorableRegion empty_region
empty_storable = record { secrets = All-nil _; few_secrets = omega arith; keys = All-nil _; few_keys = omega arith }

pub dropped_storable : (region : Region) → IsStorableRegion region → IsStorableRegion (without_configuration_keys region)
dropped_storable region is = record {
  secrets = is.secrets;
  few_secrets = is.few_secrets;
  keys = All-filter (λ (key : RegionKey). is_epoch key.kind) region_key_format.Allowed region.keys is.keys;
  few_keys = omega (arith, is.few_keys, length-filter (λ (key : RegionKey). is_epoch key.kind) region.keys, count_by-le-length (λ (key : RegionKey). is_epoch key.kind) region.keys);
}

pub with_key_storable : (key : RegionKey) (region : Region) → region_key_format.Allowed key → length region.keys < 8 → IsStorableRegion region → IsStorableRegion (with_key key region)
with_key_storable key region own room is = record {
  secrets = is.secrets;
  few_secrets = is.few_secrets;
  keys = All-push region_key_format.Allowed region.keys key is.keys own;
  few_keys = omega (arith, room, length-append region.keys (key ∷ []));
}

pub either_storable : (b : Bool) (one other : Region) → IsStorableRegion one → IsStorableRegion other → IsStorableRegion (if b then one else other)
either_storable true one other first second = first
either_storable false one other first second = second

region_after_storable : (layers : Layers) (kind : ChangeKind) (k : ℕ) (cosigned : Pair) (L : ℕ) (region : Region) → IsStorableRegion region
    → IsStorableRegion (region_after layers kind k cosigned L region)
region_after_storable layers kind k cosigned L region is =
    either_storable (nat_lt L k) region _ is (either_storable (admits layers kind k cosigned L) (without_configuration_keys region) empty_region (dropped_storable region is) empty_storable)

pub region_of-storable : (state : State) (L : ℕ) → IsStorableState state → IsStorableRegion (region_of state L)
region_of-storable state L is =
    either_storable (L == 2) state.two _ is.two (either_storable (L == 3) state.three empty_region is.three empty_storable)

pub with_region_storable : (state : State) (L : ℕ) (region : Region) → IsStorableState state → IsStorableRegion region → IsStorableState (with_region state L region)
with_region_storable state L region is own = record {
  serial = is.serial;
  device = is.device;
  layers = is.layers;
  codes = is.codes;
  log = is.log;
  few = is.few;
  two = either_storable (L == 2) region state.two own is.two;
  three = either_storable (L == 3) region state.three own is.three;
}

-- ---- the log

-- how many entries, changes and keys a log that can be stored tells of
pub small_length : (state : State) → IsStorableState state → length state.log < limit w32
small_length state is = small_number (length state.log) is.few

pub number_small : (state : State) → IsStorableState state → number_of (entries_of state.log) < limit w32
number_small state is =
    small_number (number_of (entries_of state.log)) (omega (arith, is.few, number_of-le-length (entries_of state.log), length-entries_of state.log))

next_number_small : (state : State) → length state.log + 1 ≤ 128 → number_of (entries_of state.log) + 1 < limit w32
next_number_small state room =
    small_number (number_of (entries_of state.log) + 1) (omega (arith, room, number_of-le-length (entries_of state.log), length-entries_of state.log))

made_small : (state : State) → IsStorableState state → keys_made_by (entries_of state.log) < limit w32
made_small state is =
    small_number (keys_made_by (entries_of state.log)) (omega (arith, is.few, made-le-length (entries_of state.log), length-entries_of state.log))

log_with_allowed : (state : State) (entry : Entry) → IsStorableState state → entry_format.Allowed entry → All signed_entry_format.Allowed (log_with state entry)
log_with_allowed state entry is own =
    All-push signed_entry_format.Allowed state.log (entry_signed_by state.device (uses_of_device_key (entries_of state.log)) entry) is.log (signed_allowed state.device (uses_of_device_key (entries_of state.log)) entry own)

log_with_length : (state : State) (entry : Entry) → length (log_with state entry) ≡ length state.log + 1
log_with_length state entry = length-append state.log (entry_signed_by state.device (uses_of_device_key (entries_of state.log)) entry ∷ [])

log_with_few : (state : State) (entry : Entry) → length state.log + 1 ≤ 128 → length (log_with state entry) ≤ 128
log_with_few state entry room = omega (arith, room, log_with_length state entry)

-- ---- a succession

pub succeeded_storable : (state : State) (draw : List ℕ) → IsStorableState state → length state.log + 1 ≤ 128 → IsStorableState (state_after_succession state draw)
unfolding state_after_succession
succeeded_storable state draw is room =
    let entry : Entry = succession_entry (view_of state) draw in
    let own : entry_format.Allowed entry = succession_allowed (length state.log) _ (small_length state is) (born_public_allowed draw state.serial (keys_made_by (entries_of state.log))) in
    record {
      serial = is.serial;
      device = born_seed_allowed draw state.serial (keys_made_by (entries_of state.log));
      layers = is.layers;
      codes = is.codes;
      log = log_with_allowed state entry is own;
      few = log_with_few state entry room;
      two = is.two;
      three = is.three;
    }

succeeded_length : (state : State) (draw : List ℕ) → length (state_after_succession state draw).log ≡ length state.log + 1
unfolding state_after_succession
succeeded_length state draw = log_with_length state (succession_entry (view_of state) draw)

-- ---- a change

device_after_allowed : (next : Bool) (state : State) (draw : List ℕ) → IsStorableState state → key_seed_format.Allowed (device_after next (view_of state) draw)
device_after_allowed true state draw is = born_seed_allowed draw state.serial (keys_made_by (entries_of state.log))
device_after_allowed false state draw is = is.device

named_next_allowed : (next : Bool) (state : State) (draw : List ℕ) → (optional public_key_format).Allowed (next_device_key next (view_of state) draw)
named_next_allowed true state draw = some_allowed public_key_format _ (born_public_allowed draw state.serial (keys_made_by (entries_of state.log)))
named_next_allowed false state draw = none_allowed public_key_format

-- what an order of a kind brings can be stored, and its layer is one
record CanBring (state : State) (order : Order) : Type 0 where
  least : 1 ≤ order.layer
  most : order.layer ≤ 3
  placed : (layer_format 2).Allowed (layer_from_order (layer_of state.layers order.layer) order.act)
  allowed : (act_by (kind_of order.act) (differs_in order.act)).Allowed order.act
  room : length state.log + 1 ≤ 128

changed_storable : (state : State) (kind : ChangeKind) (order : Order) (draw : List ℕ) → IsStorableState state → CanBring state order → IsStorableState (state_after_change state kind order draw)
unfolding state_after_change
changed_storable state kind order draw is can =
    let k : ℕ = order.layer in
    let by : Pair = cosigners_of order in
    let now : Layers = after state.layers kind k by (layer_from_order (layer_of state.layers k) order.act) in
    let layers : (layers_format 2).Allowed now = after_allowed state.layers kind k by (layer_from_order (layer_of state.layers k) order.act) is.layers can.placed in
    let entry : Entry = entry_of (view_of state) (change_fact state.layers kind order) draw in
    let own : entry_format.Allowed entry =
    change_allowed_by kind by (kept_regions state.layers kind k by) (record {
      small_position = small_length state is;
      small_number = next_number_small state can.room;
      least_layer = can.least;
      most_layer = can.most;
      layers_allowed = layers;
      next_allowed = named_next_allowed (renews (Some kind) k) state draw;
    })
    in
    record {
      serial = is.serial;
      device = device_after_allowed (renews (Some kind) k) state draw is;
      layers = layers;
      codes = codes_after_allowed state.codes k order.act is.codes can.allowed;
      log = log_with_allowed state entry is own;
      few = log_with_few state entry can.room;
      two = region_after_storable state.layers kind k by 2 state.two is.two;
      three = region_after_storable state.layers kind k by 3 state.three is.three;
    }

-- ---- a new key

pub key_made_allowed : (state : State) (kind : KeyKind) (draw : List ℕ) → IsStorableState state → region_key_format.Allowed (key_made (view_of state) kind draw)
key_made_allowed state kind draw is =
    region_key_allowed_by (key_made (view_of state) kind draw) (record {
      number = made_small state is;
      seed = born_seed_allowed draw state.serial (keys_made_by (entries_of state.log));
      uses = omega arith;
    })

with_log : (state : State) (L : ℕ) (kind : KeyKind) (draw : List ℕ) → IsStorableState state → 2 ≤ L → L ≤ 3 → length state.log + 1 ≤ 128 → (uses : ℕ)
    → IsStorableState (record state { log = log_with state (entry_of (view_of state) (fact.NewKey L kind) draw); uses = uses })
with_log state L kind draw is least most room uses =
    let entry : Entry = entry_of (view_of state) (fact.NewKey L kind) draw in
    let own : entry_format.Allowed entry =
    new_key_allowed_by kind (record {
      small_position = small_length state is;
      small_number = number_small state is;
      small_key_number = made_small state is;
      least_layer = least;
      most_layer = most;
      key_allowed = born_public_allowed draw state.serial (keys_made_by (entries_of state.log));
    })
    in
    record {
      serial = is.serial;
      device = is.device;
      layers = is.layers;
      codes = is.codes;
      log = log_with_allowed state entry is own;
      few = log_with_few state entry room;
      two = is.two;
      three = is.three;
    }

keyed_storable : (state : State) (L : ℕ) (kind : KeyKind) (draw : List ℕ) → IsStorableState state → 2 ≤ L → L ≤ 3 → length state.log + 1 ≤ 128
    → length (region_of state L).keys < 8 → IsStorableState (state_after_new_key state L kind draw)
unfolding state_after_new_key
keyed_storable state L kind draw is least most room keys =
    with_region_storable _ L (with_key (key_made (view_of state) kind draw) (region_of state L)) (with_log state L kind draw is least most room _)
    (with_key_storable (key_made (view_of state) kind draw) (region_of state L) (key_made_allowed state kind draw is) keys (region_of-storable state L is))

-- ---- orders

-- each order is for a layer from 1 on, one for a new key from 2 on
pub least_one : (kind : OrderKind) → 1 ≤ least_layer kind
least_one kinds.Establish = omega arith
least_one kinds.Surrender = omega arith
least_one kinds.Load = omega arith
least_one kinds.Emergency = omega arith
least_one kinds.NewKey = omega arith

pub may_be_for : (order : Order) → order_format.Allowed order → MayBeFor (kind_of order.act) order.layer
unfolding order_format body_format
may_be_for order allowed = allowed.0.1.0

pub order_act : (order : Order) → order_format.Allowed order → (act_by (kind_of order.act) (differs_in order.act)).Allowed order.act
unfolding order_format body_format
order_act order allowed = allowed.0.1.1.1

-- a layer that is loaded has an owner
load_owned : (layers : Layers) (a : Act) (k : ℕ) → Condition layers (change_of (kind_of a)) k → is_load (change_of (kind_of a)) ≡ true → IsSome (layer_of layers k).owner
load_owned layers (act.Establish owner trust) k is load = absurd (grind (arith, load))
load_owned layers act.Surrender k is load = absurd (grind (arith, load))
load_owned layers (act.Load payload) k is load = grind (arith, is)
load_owned layers (act.Emergency payload) k is load = grind (arith, is)
load_owned layers (act.NewKey kind) k is load = absurd (grind (arith, load))

can_bring : (ready : State) (order : Order) → IsStorableState ready → order_format.Allowed order → Condition ready.layers (change_by order) order.layer
    → length ready.log + 1 ≤ 128 → CanBring ready order
can_bring ready order is allowed condition room =
    let layer = may_be_for order allowed in
    let brings = order_act order allowed in
    record {
      least = omega (arith, layer.0, least_one (kind_of order.act));
      most = layer.1;
      placed = placed_allowed (layer_of ready.layers order.layer) order.act (layer_of-allowed ready.layers order.layer is.layers) brings (load_owned ready.layers order.act order.layer condition);
      allowed = brings;
      room = room;
    }

carried_storable : (ready : State) (order : Order) (a : Act) (draw : List ℕ) → IsStorableState ready → CanBring ready order → least_layer (kind_of a) ≤ order.layer
    → RegionHasRoom (view_of ready) order.layer a → IsStorableState (state_after_act ready order a draw)
carried_storable ready order (act.Establish owner trust) draw is can least keys = changed_storable ready Establish order draw is can
carried_storable ready order act.Surrender draw is can least keys = changed_storable ready Surrender order draw is can
carried_storable ready order (act.Load payload) draw is can least keys = changed_storable ready Load order draw is can
carried_storable ready order (act.Emergency payload) draw is can least keys = changed_storable ready Emergency order draw is can
carried_storable ready order (act.NewKey kind) draw is can least keys = keyed_storable ready order.layer kind draw is least can.most can.room (subst (λ n. n < 8) (region_keys_are ready order.layer) keys)

-- ---- the state that is ready

ready_room : (state : State) (draw : List ℕ) (needed : Bool) → length state.log + (if needed then 2 else 1) ≤ 128
    → length (if needed then state_after_succession state draw else state).log + 1 ≤ 128
ready_room state draw true room = omega (arith, room, succeeded_length state draw)
ready_room state draw false room = room

pub ready_by_storable : (state : State) (draw : List ℕ) (needed : Bool) → IsStorableState state → length state.log + (if needed then 2 else 1) ≤ 128
    → IsStorableState (if needed then state_after_succession state draw else state)
ready_by_storable state draw true is room = succeeded_storable state draw is (omega (arith, room))
ready_by_storable state draw false is room = is

succeeded_region : (state : State) (draw : List ℕ) (L : ℕ) → region_of (state_after_succession state draw) L ≡ region_of state L
unfolding state_after_succession
succeeded_region state draw L = refl

ready_keys : (state : State) (order : Order) (draw : List ℕ) (L : ℕ) (a : Act) → RegionHasRoom (view_of state) L a → RegionHasRoom (view_of (ready_for state order draw)) L a
ready_keys state order draw L (act.Establish owner trust) room = tt
ready_keys state order draw L act.Surrender room = tt
ready_keys state order draw L (act.Load payload) room = tt
ready_keys state order draw L (act.Emergency payload) room = tt
ready_keys state order draw L (act.NewKey kind) room =
    subst (λ n. n < 8) (sym (region_keys_are (ready_for state order draw) L))
    (subst (λ (region : Region). length region.keys < 8) (sym (kept_ready (λ (s : State). region_of s L) state order draw (succeeded_region state draw L))) (subst (λ n. n < 8) (region_keys_are state L) room))

pub obeyed_storable : (state : State) (order : Order) (draw : List ℕ) → order_format.Allowed order → Passes (view_of state) order → IsStorableState state
    → IsStorableState (state_after_order state order draw)
unfolding state_after_order
obeyed_storable state order draw allowed passes is =
    let ready : State = ready_for state order draw in
    let needed : Bool = needs_succession (view_of state) order in
    let ready_is : IsStorableState ready = ready_by_storable state draw needed is (passed passes).log in
    let condition : Condition ready.layers (change_by order) order.layer =
    subst (λ (l : Layers). Condition l (change_by order) order.layer) (sym (kept_ready (λ (s : State). s.layers) state order draw (succeeded_layers state draw))) (passed passes).condition
    in
    carried_storable ready order order.act draw ready_is (can_bring ready order ready_is allowed condition (ready_room state draw needed (passed passes).log)) (may_be_for order allowed).0
    (ready_keys state order draw order.layer order.act (passed passes).keys)
