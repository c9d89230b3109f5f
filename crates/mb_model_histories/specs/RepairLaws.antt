-- Laws of what owners can always do. Can anything take from an owner the power over a layer?
use Rattle.std.specs.Prelude.{◌≡◌, ◌≢◌, ℕ, ◌+◌, ◌-◌, ◌<◌, ◌≤◌, ◌⊎◌, IsTrue, true, false, List, [], ◌∷◌, length, None}
use Rattle.std.specs.Prelude.{Some}
use Rattle.std.specs.Int.{w32}
use Rattle.mb_format.specs.Format.{Spells}
use Rattle.mb_format.specs.Combinators.{limit}
use Rattle.mb_model.specs.declared.event.Answered.{Answered}
use Rattle.mb_model.specs.declared.event.Event.{Event}
use Rattle.mb_model.specs.declared.event.Event.TheVariants as event
use Rattle.mb_model.specs.declared.key.PublicKey.{PublicKey}
use Rattle.mb_model.specs.declared.layer.Trusts.{Trusts}
use Rattle.mb_model.specs.declared.limits.TheConstants.{CODE_LIMIT, ENTRY_LIMIT, LAST_INDEX}
use Rattle.mb_model.specs.declared.order.Act.{Act}
use Rattle.mb_model.specs.declared.order.Act.TheVariants as act
use Rattle.mb_model.specs.declared.order.Order.{Order}
use Rattle.mb_model.specs.declared.order.Payload.{Payload}
use Rattle.mb_model.specs.declared.reply.Reply.{Reply}
use Rattle.mb_model.specs.declared.reply.Reply.TheVariants as reply
use Rattle.mb_model.specs.declared.state.State.{State}
use Rattle.mb_model.specs.declared.tools.Keyfile.{Keyfile}
use Rattle.mb_model.specs.signatures.Key.{IsSized}
use Rattle.mb_model.specs.owners.Layers.{layer_of, is_upper, is_owned}
use Rattle.mb_model.specs.owners.Log.{entries_of, number_of, uses_of_device_key}
use Rattle.mb_model.specs.machine.Machine.{off, ratchet, World, opening_world, Step}
use Rattle.mb_model.specs.machine.OrderChecks.{view_of, change_by, Passes}
use Rattle.mb_model.specs.machine.OrderEffects.{state_after_order}
use Rattle.mb_model.specs.records.OrderFormat.{order_body, order_format}
use Rattle.mb_model.specs.owners.Rules.{renews, layer_from_order}
use Rattle.mb_model.specs.machine.SignedOrders.{signed_order}
use Rattle.mb_model.specs.machine.SignedTexts.{order_text, IsSignedBy}
use Rattle.mb_model.specs.signatures.Signing.{public_of}
use Rattle.mb_model.specs.memories.Valid.{IsValidState}
use Rattle.mb_model_histories.specs.Histories.{ComesAfter}
use Rattle.mb_model_histories.specs.ObeyedOrders.{ObeysAt}
use Rattle.mb_model_histories.specs.PowerLaws.{SmoothRun, power_off}

-- ---- layer 1

-- power comes on, and layer 1 runs
abbrev pub power_on : Answered
power_on = record { event = event.Boot; reply = reply.Booted }

-- Wherever a live device is, layer 1 runs after `off` and `boot`, and nothing else has changed.
abbrev pub EachLiveDeviceComesToLayerOne : Type 0
EachLiveDeviceComesToLayerOne =
    (here : World) (state : State) → here.state ≡ Some state
    → SmoothRun here (power_off ∷ power_on ∷ []) (record here { phase = ratchet 1 })

-- Each boot of a live device leads to layer 1, or finds no memory and changes nothing, or power fails at it and the
-- device is off as before. So it can be tried again.
abbrev pub BootsCanBeTriedAgain : Type 0
BootsCanBeTriedAgain =
    (here next : World) (state : State) (answer : Reply) → here.phase ≡ off → here.state ≡ Some state
    → Step here event.Boot answer next
    → ((answer ≡ reply.Booted) × (next ≡ record here { phase = ratchet 1 }))
    ⊎ ((answer ≡ reply.NoMemory) × (next ≡ here))
    ⊎ ((answer ≡ reply.Stopped) × (next ≡ opening_world (Some state)))

-- A dead device stays dead: no boot of it is answered `booted`.
abbrev pub DeadDevicesNeverBoot : Type 0
DeadDevicesNeverBoot =
    (here next : World) (answer : Reply) → here.state ≡ None → Step here event.Boot answer next
    → (next.state ≡ None) × (answer ≢ reply.Booted)

-- ---- orders that are always obeyed

-- the version and the code of a load fit their fields
pub record CanBeLoaded (payload : Payload) : Type 0 where
  pub version : payload.version < limit w32
  pub code : length payload.code ≤ CODE_LIMIT

-- an order without targets and countersignatures, signed by a key at its next index
abbrev pub plain_order : Keyfile → ℕ → Act → Order
plain_order keyfile layer act =
    signed_order keyfile (record { layer = layer; targets = []; act = act; signature = []; countersignatures = [] })

-- The order is given by its spelling and obeyed: the device answers `done`.
abbrev pub answered_done : State → Order → List ℕ → Answered
answered_done state order draw =
    let after : State = state_after_order state order draw in
    record {
      event = event.Order (order_format.spelling order) draw;
      reply = reply.Done (number_of (entries_of after.log)) (length after.log);
    }

-- The order has a spelling, and is obeyed after `off` and `boot`. Its layer then is what it says.
pub record CanBeGiven (here : World) (state : State) (order : Order) (draw : List ℕ) : Type 0 where
  pub spelled : Spells order_format (order_format.spelling order) order
  pub last : World
  pub run : SmoothRun here (power_off ∷ power_on ∷ answered_done state order draw ∷ []) last
  pub is : last.state ≡ Some (state_after_order state order draw)
  pub becomes : layer_of (state_after_order state order draw).layers order.layer
      ≡ layer_from_order (layer_of state.layers order.layer) order.act

-- the key is that of this layer's owner, and has an index left
pub record HasKeyOf (state : State) (layer : ℕ) (keyfile : Keyfile) : Type 0 where
  pub owns : (layer_of state.layers layer).owner ≡ Some (public_of keyfile.seed)
  pub left : keyfile.next < 32

-- Wherever a live device is, the owner of layer 1 can load it, as long as the log has room for an entry.
abbrev pub LayerOneCanAlwaysBeLoaded : Type 0
LayerOneCanAlwaysBeLoaded =
    (here : World) (state : State) (keyfile : Keyfile) (payload : Payload) (draw : List ℕ) → IsValidState state
    → here.state ≡ Some state → HasKeyOf state 1 keyfile → CanBeLoaded payload → length state.log < ENTRY_LIMIT
    → CanBeGiven here state (plain_order keyfile 1 (act.Load payload)) draw

-- The owner of the layer beneath can load layer 2 or 3 in an emergency, if it has an owner, as long as the log has room
-- for two entries. The layer is then reliable, whatever it was.
abbrev pub LayersCanAlwaysBeRecovered : Type 0
LayersCanAlwaysBeRecovered =
    (here : World) (state : State) (layer : ℕ) (keyfile : Keyfile) (payload : Payload) (draw : List ℕ)
    → here.state ≡ Some state → IsTrue (is_upper layer) → IsTrue (is_owned state.layers layer)
    → HasKeyOf state (layer - 1) keyfile → CanBeLoaded payload → length state.log + 2 ≤ ENTRY_LIMIT
    → CanBeGiven here state (plain_order keyfile layer (act.Emergency payload)) draw

-- The owner of the layer beneath can give layer 2 or 3 an owner, if it has none, as long as the log has room for two
-- entries.
abbrev pub LayersCanAlwaysBeGiven : Type 0
LayersCanAlwaysBeGiven =
    (here : World) (state : State) (layer : ℕ) (keyfile : Keyfile) (owner : PublicKey) (trust : Trusts)
    → (draw : List ℕ) → here.state ≡ Some state → IsTrue (is_upper layer) → is_owned state.layers layer ≡ false
    → HasKeyOf state (layer - 1) keyfile → IsSized owner → length state.log + 2 ≤ ENTRY_LIMIT
    → CanBeGiven here state (plain_order keyfile layer (act.Establish owner trust)) draw

-- One entry may be too little room: where the device key has only its last index left, no order but an ordinary load of
-- layer 1 passes unless the log has room for two.
abbrev pub OneEntryIsNotEnough : Type 0
OneEntryIsNotEnough =
    (state : State) (order : Order) → uses_of_device_key (entries_of state.log) ≡ LAST_INDEX
    → renews (change_by order) order.layer ≡ false → ENTRY_LIMIT ≤ length state.log + 1
    → Passes (view_of state) order → ⊥

-- ---- what nobody else can do

-- Between these two worlds of a history the layer was loaded in an emergency, signed by the owner of the layer beneath.
pub record WasRecovered (first last : World) (layer : ℕ) : Type 0 where
  pub here : World
  pub this : Event
  pub after : World
  pub order : Order
  pub payload : Payload
  pub before : ComesAfter here first
  pub obeyed : ObeysAt here this after order
  pub later : ComesAfter last after
  pub emergency : order.act ≡ act.Emergency payload
  pub of_layer : order.layer ≡ layer
  pub signed : IsSignedBy
      (layer_of obeyed.before.layers (layer - 1)).owner
      (order_text (order_body order))
      order.signature

-- A layer that is not reliable becomes so by an emergency load alone, which only the owner of the layer beneath can
-- order: if that owner gives no orders, nobody else can repair the layer.
abbrev pub OnlyTheOwnerBeneathRecovers : Type 0
OnlyTheOwnerBeneathRecovers =
    (first last : World) (sooner later : State) (layer : ℕ) → ComesAfter last first → first.state ≡ Some sooner
    → last.state ≡ Some later → (layer_of sooner.layers layer).reliable ≡ false
    → (layer_of later.layers layer).reliable ≡ true → WasRecovered first last layer
