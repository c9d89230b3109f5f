-- When a device obeys an order, and what it keeps when it obeys none. Does anything else than an order change a device?
use Rattle.std.specs.Prelude.{◌≡◌, ◌<◌, ◌≤◌, List, ℕ, true, false, Option, None, Some}
use Rattle.mb_format.specs.Format.{Spells}
use Rattle.mb_model.specs.declared.event.Event.{Event}
use Rattle.mb_model.specs.declared.event.Event.TheVariants as event
use Rattle.mb_model.specs.declared.event.Event.TheVariants.{Put, Drop, Sign, Call}
use Rattle.mb_model.specs.declared.layer.Layer.{Layer}
use Rattle.mb_model.specs.declared.order.Order.{Order}
use Rattle.mb_model.specs.declared.state.State.{State}
use Rattle.mb_model.specs.machine.LayerEvents.{code_in, takes_calls}
use Rattle.mb_model.specs.owners.Layers.{layer_of, Runnable}
use Rattle.mb_model.specs.machine.Machine.{ratchet, World}
use Rattle.mb_model.specs.machine.OrderChecks.{view_of, IsSigned, Passes}
use Rattle.mb_model.specs.machine.OrderEffects.{state_after_order}
use Rattle.mb_model.specs.records.OrderFormat.{order_format}
use Rattle.mb_model.specs.owners.Rules.{layer_from_order}

-- At this event, while layer 1 runs, the order passes, and what it leaves is the state of the next world. Whether the
-- device answered so, or lost power after it had written, is left open.
pub record ObeysAt (here : World) (this : Event) (next : World) (order : Order) : Type 0 where
  pub text : List ℕ
  pub draw : List ℕ
  pub before : State
  pub given : this ≡ event.Order text draw
  pub running : here.phase ≡ ratchet 1
  pub was : here.state ≡ Some before
  pub spelled : Spells order_format text order
  pub passes : Passes (view_of before) order
  pub is : next.state ≡ Some (state_after_order before order draw)

-- all of the state is kept but the regions: serial, layers and their code, log, device key and its uses
abbrev pub KeepsAllButRegions : State → State → Type 0
KeepsAllButRegions before after = after ≡ record before { two = after.two; three = after.three }

-- ---- what a layer does with its region

-- the region of a layer is open: the layer has no code that takes calls
abbrev pub IsOpen : State → ℕ → Type 0
IsOpen state layer = takes_calls (code_in state.codes layer) ≡ false

-- the region of a layer is its code's alone, since the code takes calls
abbrev pub IsSealed : State → ℕ → Type 0
IsSealed state layer = takes_calls (code_in state.codes layer) ≡ true

-- the layer whose region the event may change
abbrev pub layer_asked : Event → Option ℕ
layer_asked (Put layer name value) = Some layer
layer_asked (Drop layer name) = Some layer
layer_asked (Sign layer key message) = Some layer
layer_asked (Call layer key input) = Some layer
layer_asked other = None

-- At this event the region of a layer may change: it is a `put`, a `drop`, a `sign` or a `call` of that layer, no layer
-- above it is in control, and it may run.
pub record ActsOnRegion (here : World) (this : Event) (layer : ℕ) : Type 0 where
  pub state : State
  pub level : ℕ
  pub asked : layer_asked this ≡ Some layer
  pub was : here.state ≡ Some state
  pub running : here.phase ≡ ratchet level
  pub in_control : level ≤ layer
  pub runs : Runnable state.layers layer

-- ---- what an order makes of a layer

-- A layer is `new` after an order: as it was; or, if it is the layer of the order, and the owner in charge signed that,
-- what the order puts there; or, if it stands above that layer, no longer reliable, and else as it was.
pub data Becomes (before : State) (order : Order) (layer : ℕ) (new : Layer) : Type 0 where
  stays : new ≡ layer_of before.layers layer → Becomes before order layer new
  is_ordered : layer ≡ order.layer
      → IsSigned (view_of before) order
      → new ≡ layer_from_order (layer_of before.layers layer) order.act
      → Becomes before order layer new
  is_distrusted : order.layer < layer
      → new ≡ record (layer_of before.layers layer) { reliable = false }
      → Becomes before order layer new
