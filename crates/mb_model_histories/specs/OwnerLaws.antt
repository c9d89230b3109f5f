-- Laws of owners: who decides over a layer, and who owned it while something was kept there. Can anyone take a layer
-- from its owner, or read what an earlier owner kept?
use Rattle.std.specs.Prelude.{◌≡◌, ◌≢◌, ◌≤◌, ◌<◌, ◌==◌, ◌+◌, ◌⊎◌, ℕ, IsTrue, List, [], ◌++◌, length, Contains, Option}
use Rattle.std.specs.Prelude.{None, Some, if◌then◌else◌}
use Rattle.mb_model.specs.declared.entry.Entry.{Entry}
use Rattle.mb_model.specs.declared.event.Event.{Event}
use Rattle.mb_model.specs.declared.event.Event.TheVariants.{Get}
use Rattle.mb_model.specs.declared.key.PublicKey.{PublicKey}
use Rattle.mb_model.specs.declared.limits.TheConstants.{ENTRY_LIMIT}
use Rattle.mb_model.specs.declared.order.Act.TheVariants as act
use Rattle.mb_model.specs.declared.order.Order.{Order}
use Rattle.mb_model.specs.declared.region.RegionKey.{RegionKey}
use Rattle.mb_model.specs.declared.region.Secret.{Secret}
use Rattle.mb_model.specs.declared.reply.Reply.{Reply}
use Rattle.mb_model.specs.declared.reply.Reply.TheVariants as reply
use Rattle.mb_model.specs.declared.state.Codes.{Codes}
use Rattle.mb_model.specs.declared.state.State.{State}
use Rattle.mb_model.specs.declared.tools.Keyfile.{Keyfile}
use Rattle.mb_model.specs.owners.Layers.{layer_of, is_upper, Runnable}
use Rattle.mb_model.specs.owners.Log.{entries_of, number_of, layers_of, keys_made_by}
use Rattle.mb_model.specs.machine.Machine.{ratchet, World, Step}
use Rattle.mb_model.specs.signatures.Merkle.{Verifies}
use Rattle.mb_model.specs.records.OrderFormat.{order_body}
use Rattle.mb_model.specs.owners.Regions.{region_of, AdmittedSince}
use Rattle.mb_model.specs.machine.SignedTexts.{order_text}
use Rattle.mb_model.specs.memories.Valid.{IsValidState, Valid}
use Rattle.mb_model_histories.specs.Histories.{ComesAfter}
use Rattle.mb_model_histories.specs.ObeyedOrders.{ObeysAt, KeepsAllButRegions, ActsOnRegion, Becomes}
use Rattle.mb_model_histories.specs.RepairLaws.{plain_order, CanBeGiven, HasKeyOf}

-- ---- who decides

-- A step of a device that stays alive leaves all but the regions, or obeys an order.
abbrev pub OnlyOrdersChange : Type 0
OnlyOrdersChange =
    (here next : World) (this : Event) (answer : Reply) (before after : State) → Step here this answer next
    → here.state ≡ Some before → next.state ≡ Some after
    → KeepsAllButRegions before after ⊎ ((order : Order) × ObeysAt here this next order)

-- An order that is obeyed makes the log longer. So no step both keeps all but the regions and obeys an order.
abbrev pub ObeyedOrdersAreLogged : Type 0
ObeyedOrdersAreLogged =
    (here next : World) (this : Event) (order : Order) (before after : State) → ObeysAt here this next order
    → here.state ≡ Some before → next.state ≡ Some after → length before.log < length after.log

-- A region of a device that stays alive changes only at an event of its own layer, or at an order that is obeyed.
abbrev pub RegionsChangeByTheirLayer : Type 0
RegionsChangeByTheirLayer =
    (here next : World) (this : Event) (answer : Reply) (before after : State) (layer : ℕ)
    → Step here this answer next → here.state ≡ Some before → next.state ≡ Some after
    → (region_of after layer ≡ region_of before layer) ⊎ ActsOnRegion here this layer
    ⊎ ((order : Order) × ObeysAt here this next order)

-- An event that is answered `done` is an order that is obeyed.
abbrev pub DoneIsObeyed : Type 0
DoneIsObeyed =
    (here next : World) (this : Event) (number size : ℕ) → Step here this (reply.Done number size) next
    → (order : Order) × ObeysAt here this next order

-- An order that is obeyed makes of its own layer what it says, by the signature of the owner in charge. Of a layer
-- above it can only end the reliability, and it leaves those beneath.
abbrev pub OrdersChangeTheirLayer : Type 0
OrdersChangeTheirLayer =
    (here next : World) (this : Event) (order : Order) (after : State) (layer : ℕ)
    → (obeyed : ObeysAt here this next order) → next.state ≡ Some after
    → Becomes obeyed.before order layer (layer_of after.layers layer)

-- the code of a layer: that of layer 1, 2 or 3, and none of any other number
abbrev pub code_of : Codes → ℕ → Option (List ℕ)
code_of codes layer =
    if layer == 1 then codes.one
    else if layer == 2 then codes.two
    else if layer == 3 then codes.three
    else None

-- An order leaves the code of each layer but its own.
abbrev pub OrdersLeaveOtherCode : Type 0
OrdersLeaveOtherCode =
    (here next : World) (this : Event) (order : Order) (after : State) (layer : ℕ)
    → (obeyed : ObeysAt here this next order) → next.state ≡ Some after → layer ≢ order.layer
    → code_of after.codes layer ≡ code_of obeyed.before.codes layer

-- ---- owners

-- Between these two worlds of a history the owner of a layer gave it up: an order of surrender with its signature was
-- obeyed.
pub record GaveUp (first last : World) (layer : ℕ) (owner : PublicKey) : Type 0 where
  pub here : World
  pub this : Event
  pub after : World
  pub order : Order
  pub before : ComesAfter here first
  pub obeyed : ObeysAt here this after order
  pub later : ComesAfter last after
  pub surrenders : order.act ≡ act.Surrender
  pub of_layer : order.layer ≡ layer
  pub signed : Verifies owner (order_text (order_body order)) order.signature

-- An owner stays, unless it gave up its layer itself, which is then layer 2 or 3.
abbrev pub OwnersStay : Type 0
OwnersStay =
    (first last : World) (sooner later : State) (layer : ℕ) (owner : PublicKey) → ComesAfter last first
    → first.state ≡ Some sooner → last.state ≡ Some later → (layer_of sooner.layers layer).owner ≡ Some owner
    → ((layer_of later.layers layer).owner ≡ Some owner) ⊎ ((2 ≤ layer) × GaveUp first last layer owner)

-- The owner of layer 1 is always the same.
abbrev pub OwnerOfLayerOneStays : Type 0
OwnerOfLayerOneStays =
    (first last : World) (sooner later : State) → Valid first.state → ComesAfter last first
    → first.state ≡ Some sooner → last.state ≡ Some later → later.layers.one.owner ≡ sooner.layers.one.owner

-- The owner of layer 2 or 3 can give it up, as long as the log has room for two entries. So an owner need not stay.
abbrev pub OwnersCanGiveUp : Type 0
OwnersCanGiveUp =
    (here : World) (state : State) (layer : ℕ) (keyfile : Keyfile) (draw : List ℕ) → here.state ≡ Some state
    → IsTrue (is_upper layer) → HasKeyOf state layer keyfile → length state.log + 2 ≤ ENTRY_LIMIT
    → CanBeGiven here state (plain_order keyfile layer act.Surrender) draw

-- ---- owners and what is kept

-- At each point of the log since a secret came, its layer had the owner that it has now.
abbrev pub SecretsKeepTheirOwner : Type 0
SecretsKeepTheirOwner =
    (state : State) (layer : ℕ) (before rest : List Entry) (secret : Secret) → IsValidState state
    → Contains (region_of state layer).secrets secret → entries_of state.log ≡ before ++ rest
    → secret.born ≤ number_of before
    → (layer_of (layers_of before) layer).owner ≡ (layer_of state.layers layer).owner

-- At each point of the log since a key was made, its layer had the owner that it has now.
abbrev pub KeysKeepTheirOwner : Type 0
KeysKeepTheirOwner =
    (state : State) (layer : ℕ) (before rest : List Entry) (key : RegionKey) → IsValidState state
    → Contains (region_of state layer).keys key → entries_of state.log ≡ before ++ rest
    → key.number < keys_made_by before
    → (layer_of (layers_of before) layer).owner ≡ (layer_of state.layers layer).owner

-- Before a secret came its layer may have had another owner, or none: before the birth no layer has the owner that a
-- layer with a secret has.
abbrev pub NobodyOwnsBeforeTheBirth : Type 0
NobodyOwnsBeforeTheBirth =
    (state : State) (layer : ℕ) (secret : Secret) → IsValidState state
    → Contains (region_of state layer).secrets secret
    → (layer_of (layers_of []) layer).owner ≢ (layer_of state.layers layer).owner

-- In this world a `get` reads this value: that of a secret of the region. Since it came, its layer has admitted each
-- change of itself or beneath it; all layers up to its own are reliable, and none above it is in control.
pub record ReadsSecret (here : World) (layer : ℕ) (name value : List ℕ) : Type 0 where
  pub state : State
  pub secret : Secret
  pub level : ℕ
  pub is : here.state ≡ Some state
  pub within : Contains (region_of state layer).secrets secret
  pub name_is : secret.name ≡ name
  pub value_is : secret.value ≡ value
  pub admitted : AdmittedSince (entries_of state.log) secret.born layer
  pub runs : Runnable state.layers layer
  pub running : here.phase ≡ ratchet level
  pub in_control : level ≤ layer

-- What a `get` answers was admitted at each change since it came.
abbrev pub ValuesAreAdmitted : Type 0
ValuesAreAdmitted =
    (here next : World) (layer : ℕ) (name value : List ℕ) → Valid here.state
    → Step here (Get layer name) (reply.Value value) next → ReadsSecret here layer name value

-- There is a state, one that no device can have, in which a `get` answers the value of a secret that was kept over a
-- change which its layer did not admit.
abbrev pub InvalidStatesReadMore : Type 0
InvalidStatesReadMore =
    (here : World) × (layer : ℕ) × (name : List ℕ) × (value : List ℕ)
    × Step here (Get layer name) (reply.Value value) here × (ReadsSecret here layer name value → ⊥)
