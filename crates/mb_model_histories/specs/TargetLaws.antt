-- Laws of targets, and of how many orders a log has room for. What does a target protect, and what stops a full log?
use Rattle.std.specs.Prelude.{◌≡◌, ◌<◌, ◌≤◌, ◌+◌, ◌-◌, ℕ, true, IsTrue, List, [], ◌∷◌, length, All, Contains, Option}
use Rattle.std.specs.Prelude.{Some}
use Rattle.mb_format.specs.Format.{Spells}
use Rattle.mb_model.specs.declared.limits.TheConstants.{ENTRY_LIMIT}
use Rattle.mb_model.specs.declared.event.Answered.{Answered}
use Rattle.mb_model.specs.declared.event.Event.{Event}
use Rattle.mb_model.specs.declared.event.Event.TheVariants as event
use Rattle.mb_model.specs.declared.order.Act.TheVariants as act
use Rattle.mb_model.specs.declared.order.Order.{Order}
use Rattle.mb_model.specs.declared.order.Payload.{Payload}
use Rattle.mb_model.specs.declared.order.Target.TheVariants.{Serial, Length}
use Rattle.mb_model.specs.declared.state.State.{State}
use Rattle.mb_model.specs.declared.tools.Keyfile.{Keyfile}
use Rattle.mb_model.specs.chains.Listing.{is_done, replies_that}
use Rattle.mb_model.specs.machine.Machine.{ratchet, World, Run}
use Rattle.mb_model.specs.machine.OrderChecks.{view_of, change_by, LogHasRoom, Passes}
use Rattle.mb_model.specs.machine.OrderEffects.{state_after_order}
use Rattle.mb_model.specs.records.OrderFormat.{order_format}
use Rattle.mb_model.specs.owners.Rules.{is_load, renews}
use Rattle.mb_model.specs.machine.SignedOrders.{signed_order}
use Rattle.mb_model.specs.memories.Valid.{IsValidState}
use Rattle.mb_model_histories.specs.Histories.{History, all_answered, ComesAfter}
use Rattle.mb_model_histories.specs.ObeyedOrders.{ObeysAt}
use Rattle.mb_model_histories.specs.RepairLaws.{plain_order, HasKeyOf}

-- ---- targets

-- Of the orders that demand one length of the log, a device obeys at most one: after it none is obeyed, whatever comes
-- in between.
abbrev pub LengthTargetsCountOnce : Type 0
LengthTargetsCountOnce =
    (here after there beyond : World) (this that : Event) (one other : Order) (n : ℕ) → ObeysAt here this after one
    → Contains one.targets (Length n) → ComesAfter there after → ObeysAt there that beyond other
    → Contains other.targets (Length n) → ⊥

-- An order that demands a serial is obeyed by no device but the one that had it from the start.
abbrev pub SerialTargetsNameTheDevice : Type 0
SerialTargetsNameTheDevice =
    (first here next : World) (this : Event) (order : Order) (state : State) (serial : List ℕ)
    → first.state ≡ Some state → ComesAfter here first → ObeysAt here this next order
    → Contains order.targets (Serial serial) → serial ≡ state.serial

-- the load of layer 1 that names this device and the length of its log, signed by a key at its next index
abbrev pub named_load : Keyfile → State → Payload → Order
named_load keyfile state payload = signed_order keyfile (record {
  layer = 1;
  targets = Serial state.serial ∷ Length (length state.log) ∷ [];
  act = act.Load payload;
  signature = [];
  countersignatures = [];
})

-- The load of layer 1 by its owner passes with both targets, if they are those of the device.
abbrev pub NamedLoadsPass : Type 0
NamedLoadsPass =
    (state : State) (keyfile : Keyfile) (payload : Payload) → IsValidState state → HasKeyOf state 1 keyfile
    → length state.log < ENTRY_LIMIT → Passes (view_of state) (named_load keyfile state payload)

-- ---- room in the log

-- No more orders are answered `done` in a history than the log has room for entries at its start.
abbrev pub OrdersAreFew : Type 0
OrdersAreFew =
    (first last : Option State) (runs : List (List Answered)) (state : State) → first ≡ Some state
    → History first runs last → replies_that is_done (all_answered runs) ≤ ENTRY_LIMIT - length state.log

-- Once the log is full, no order is obeyed any more, whoever signs it.
abbrev pub FullLogsObeyNothing : Type 0
FullLogsObeyNothing =
    (first here next : World) (this : Event) (order : Order) (state : State) → first.state ≡ Some state
    → ENTRY_LIMIT ≤ length state.log → ComesAfter here first → ObeysAt here this next order → ⊥

-- ---- loads without targets

-- the order is a load without targets, ordinary or emergency, and passes in this state
pub record IsFreeLoad (state : State) (order : Order) : Type 0 where
  pub passes : Passes (view_of state) order
  pub free : order.targets ≡ []
  pub load : IsTrue (is_load (change_by order))

-- The load of layer 1 that its owner signs without targets is such an order.
abbrev pub PlainLoadsAreFree : Type 0
PlainLoadsAreFree =
    (state : State) (keyfile : Keyfile) (payload : Payload) → IsValidState state → HasKeyOf state 1 keyfile
    → length state.log < ENTRY_LIMIT → IsFreeLoad state (plain_order keyfile 1 (act.Load payload))

-- A load without targets that was obeyed passes again at once, with the same signatures, as long as the log has room.
abbrev pub FreeLoadsPassAgain : Type 0
FreeLoadsPassAgain =
    (state : State) (order : Order) (draw : List ℕ) → IsFreeLoad state order
    → LogHasRoom (view_of (state_after_order state order draw)) order
    → Passes (view_of (state_after_order state order draw)) order

-- The log has no room for the order any more: it has one place left at most, and none if the order is an ordinary load
-- of layer 1.
pub record IsFilledFor (order : Order) (state : State) : Type 0 where
  pub no_room : LogHasRoom (view_of state) order → ⊥
  pub nearly : ENTRY_LIMIT ≤ length state.log + 1
  pub wholly : renews (change_by order) order.layer ≡ true → ENTRY_LIMIT ≤ length state.log

-- The bytes of one load without targets, given again and again, fill the log until it has no room for the load. Whoever
-- holds them can see to it that the device obeys at most one order more, and none if it is an ordinary load of layer 1.
abbrev pub OneFreeLoadFillsTheLog : Type 0
OneFreeLoadFillsTheLog =
    (here : World) (state : State) (order : Order) (text draw : List ℕ) → here.phase ≡ ratchet 1
    → here.state ≡ Some state → Spells order_format text order → IsFreeLoad state order
    → (answered : List Answered) × (last : World) × (full : State) × Run here answered last
    × All (λ this. (this.event ≡ event.Order text draw) × IsTrue (is_done this.reply)) answered
    × (last.state ≡ Some full) × IsFilledFor order full

-- An order that demands a length does not pass again.
abbrev pub BoundOrdersPassOnce : Type 0
BoundOrdersPassOnce =
    (state : State) (order : Order) (draw : List ℕ) (n : ℕ) → Passes (view_of state) order
    → Contains order.targets (Length n) → Passes (view_of (state_after_order state order draw)) order → ⊥
