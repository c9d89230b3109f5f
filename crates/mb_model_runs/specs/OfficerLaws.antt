-- Laws of orders that the right officers signed. Does a device obey what an officer's tool makes?
use Rattle.std.specs.Prelude.{◌≡◌, ℕ, ◌<◌, List, length, All, Some}
use Rattle.mb_format.specs.Format.{Spells}
use Rattle.mb_model.specs.declared.key.KeySeed.{KeySeed}
use Rattle.mb_model.specs.declared.order.Countersignature.{Countersignature}
use Rattle.mb_model.specs.declared.order.Order.{Order}
use Rattle.mb_model.specs.declared.event.Event.TheVariants as event
use Rattle.mb_model.specs.declared.reply.Reply.{Reply}
use Rattle.mb_model.specs.declared.reply.Reply.TheVariants as reply
use Rattle.mb_model.specs.declared.state.State.{State}
use Rattle.mb_model.specs.declared.tools.Keyfile.{Keyfile}
use Rattle.mb_model.specs.owners.Layers.{layer_of}
use Rattle.mb_model.specs.owners.Rules.{authority}
use Rattle.mb_model.specs.owners.Log.{entries_of, number_of}
use Rattle.mb_model.specs.records.OrderFormat.{order_format, order_body}
use Rattle.mb_model.specs.machine.OrderChecks.{view_of, change_by, IsSigned, IsCountersigned, Passes}
use Rattle.mb_model.specs.machine.OrderEffects.{state_after_order}
use Rattle.mb_model.specs.machine.Machine.{ratchet, World, Machine}
use Rattle.mb_model.specs.machine.SignedTexts.{order_text, countersigned_text}
use Rattle.mb_model.specs.machine.SignedOrders.{signed_order, countersigned_order}
use Rattle.mb_model.specs.signatures.Signing.{public_of, signature_of}

-- the owner in charge of the order has this key
abbrev pub HasCharge : State → Order → KeySeed → Type 0
HasCharge state order key = authority state.layers (change_by order) order.layer ≡ Some (public_of key)

-- the owner of layer m has this key
abbrev pub OwnsLayer : State → ℕ → KeySeed → Type 0
OwnsLayer state m key = (layer_of state.layers m).owner ≡ Some (public_of key)

-- The order has the signature that the key of the owner in charge makes of it, at one of the key's 32 indices.
pub record IsRightlySigned (state : State) (order : Order) : Type 0 where
  pub key : KeySeed
  pub index : ℕ
  pub charge : HasCharge state order key
  pub left : index < 32
  pub signature : order.signature ≡ signature_of key index (order_text (order_body order))

-- The countersignature is one that the key of its layer's owner makes of the order for that layer.
pub record IsRightlyCountersigned (state : State) (order : Order) (by : Countersignature) : Type 0 where
  pub key : KeySeed
  pub index : ℕ
  pub owner : OwnsLayer state by.layer key
  pub left : index < 32
  pub signature : by.signature ≡ signature_of key index (countersigned_text by.layer (order_body order))

-- ---- what a device accepts

abbrev pub RightSignaturesPass : Type 0
RightSignaturesPass = (state : State) (order : Order) → IsRightlySigned state order → IsSigned (view_of state) order

abbrev pub RightCountersignaturesPass : Type 0
RightCountersignaturesPass =
    (state : State) (order : Order) (by : Countersignature) → IsRightlyCountersigned state order by
    → IsCountersigned (view_of state) order by

-- the order passes every check, if it passes those of its signatures
abbrev pub PassesTheRest : State → Order → Type 0
PassesTheRest state order =
    IsSigned (view_of state) order → All (IsCountersigned (view_of state) order) order.countersignatures
    → Passes (view_of state) order

-- While layer 1 runs, an order that passes the rest is obeyed, if the right officers signed and countersigned it.
abbrev pub RightOrdersAreObeyed : Type 0
RightOrdersAreObeyed =
    (world : World) (state : State) (text draw : List ℕ) (order : Order)
    → world.phase ≡ ratchet 1 → world.state ≡ Some state → Spells order_format text order → PassesTheRest state order
    → IsRightlySigned state order → All (IsRightlyCountersigned state order) order.countersignatures
    → let next : State = state_after_order state order draw in
    let answer : Reply = reply.Done (number_of (entries_of next.log)) (length next.log) in
    Machine world (event.Order text draw) answer (record world { state = Some next })

-- ---- what officers' tools make

-- an order that an officer's tool has signed with the key of the owner in charge passes as signed
abbrev pub SignedOrdersPass : Type 0
SignedOrdersPass =
    (state : State) (order : Order) (k : Keyfile) → k.next < 32 → HasCharge state order k.seed
    → IsSigned (view_of state) (signed_order k order)

-- An order stays signed when it is countersigned.
abbrev pub CountersigningKeepsTheSignature : Type 0
CountersigningKeepsTheSignature =
    (state : State) (order : Order) (k : Keyfile) (m : ℕ) → IsSigned (view_of state) order
    → IsSigned (view_of state) (countersigned_order k m order)

-- If all countersignatures of an order pass, and the key of layer m's owner countersigns it for m, all pass again.
abbrev pub CountersignedOrdersPass : Type 0
CountersignedOrdersPass =
    (state : State) (order : Order) (k : Keyfile) (m : ℕ) → k.next < 32 → OwnsLayer state m k.seed
    → All (IsCountersigned (view_of state) order) order.countersignatures
    → All
    (IsCountersigned (view_of state) (countersigned_order k m order))
    (countersigned_order k m order).countersignatures
