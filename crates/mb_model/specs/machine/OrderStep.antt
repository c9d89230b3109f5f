-- What a device does with an order. Is it obeyed exactly if it passes every check, and else not at all?
use Rattle.std.specs.Prelude.{◌≡◌, ℕ}
use Rattle.std.specs.Prelude.{List, length}
use Rattle.mb_format.specs.Format.{Spells}
use Rattle.mb_model.specs.declared.order.Order.{Order}
use Rattle.mb_model.specs.declared.state.State.{State}
use Rattle.mb_model.specs.declared.reply.Reply.{Reply}
use Rattle.mb_model.specs.declared.reply.Reply.TheVariants as reply
use Rattle.mb_model.specs.owners.Log.{entries_of, number_of}
use Rattle.mb_model.specs.records.OrderFormat.{order_format}
use Rattle.mb_model.specs.declared.reply.OrderRefusal.{OrderRefusal}
use Rattle.mb_model.specs.declared.reply.Refusal.TheVariants as refused
use Rattle.mb_model.specs.machine.Refusals.{refusal_reply}
use Rattle.mb_model.specs.machine.OrderChecks.{view_of, Passes, Fails}
use Rattle.mb_model.specs.machine.OrderEffects.{state_after_order}

-- the bytes spell no order: they are refused, and nothing changes
pub record SpellsNone (state : State) (text : List ℕ) (answer : Reply) (next : State) : Type 0 where
  pub none : (order : Order) → Spells order_format text order → ⊥
  pub answered : answer ≡ refusal_reply refused.BadText
  pub stays : next ≡ state

-- the bytes spell an order: it is refused for the first check that it fails, and nothing changes
pub record FailsCheck (state : State) (text : List ℕ) (answer : Reply) (next : State) : Type 0 where
  pub order : Order
  pub spelled : Spells order_format text order
  pub refusal : OrderRefusal
  pub fails : Fails (view_of state) order refusal
  pub answered : answer ≡ refusal_reply (refused.Order refusal)
  pub stays : next ≡ state

-- The bytes spell an order that passes: it is obeyed. The answer gives the configuration number and the length of the
-- log afterwards.
pub record IsObeyed (state : State) (text draw : List ℕ) (answer : Reply) (next : State) : Type 0 where
  pub order : Order
  pub spelled : Spells order_format text order
  pub passes : Passes (view_of state) order
  pub follows : next ≡ state_after_order state order draw
  pub answered : answer ≡ reply.Done (number_of (entries_of next.log)) (length next.log)

-- From `state`, the bytes `text` have the reply `answer` and lead to `next`.
pub data OrderStep (state : State) (text draw : List ℕ) (answer : Reply) (next : State) : Type 0 where
  spells_none : SpellsNone state text answer next → OrderStep state text draw answer next
  fails_check : FailsCheck state text answer next → OrderStep state text draw answer next
  is_obeyed : IsObeyed state text draw answer next → OrderStep state text draw answer next
