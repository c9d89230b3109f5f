-- How an order is answered, and what a power loss leaves of it. Is an order obeyed wholly or not at all?
use Rattle.std.specs.Prelude.{◌≡◌, ℕ, ◌⊎◌, List, false, Result, Ok, Err}
use Rattle.mb_format.specs.Format.{Spells}
use Rattle.mb_model.specs.declared.order.Order.{Order}
use Rattle.mb_model.specs.declared.reply.Reply.{Reply}
use Rattle.mb_model.specs.declared.reply.Reply.TheVariants as reply
use Rattle.mb_model.specs.declared.state.State.{State}
use Rattle.mb_model.specs.outside.Board.{Memory}
use Rattle.mb_model.specs.chains.Listing.{is_done}
use Rattle.mb_model.specs.owners.Log.{keys_made_by}
use Rattle.mb_model.specs.records.OrderFormat.{order_format}
use Rattle.mb_model.specs.machine.OrderStep.{OrderStep}
use Rattle.mb_model.specs.machine.Work.{bodies_for}
use Rattle.mb_model_memory.specs.Holding.{Means, IsReady}
use Rattle.mb_device_orders.specs.declared.remembering.Known.{Known}
use Rattle.mb_device_orders.specs.Remembering.{Knows, KnowsCode}

-- The answer to these bytes in a state, what the device remembers afterwards, and the memory before and after them.
pub data IsOrderAnswered
    (state : State) (text draw : List ℕ) (known : Known) (answer : Reply) (before after : Memory) : Type 0 where
  -- an allocation failed, and nothing has changed
  answer_lacks : answer ≡ reply.NoMemory → after ≡ before → Knows known state → KnowsCode known after.flash state →
      IsOrderAnswered state text draw known answer before after
  -- the answer is that of a step of the machine, and the memory is ready with the state after it
  answer_tells : (next : State) → OrderStep state text draw answer next → IsReady after next → Knows known next →
      KnowsCode known after.flash next → IsOrderAnswered state text draw known answer before after

-- Power failed while an order was obeyed: the order counts wholly or not at all.
pub record IsOrderCut (state : State) (text draw : List ℕ) (after : Memory) : Type 0 where
  pub number : ℕ
  pub size : ℕ
  pub next : State
  pub step : OrderStep state text draw (reply.Done number size) next
  pub counts : Means after state ⊎ Means after next

-- the result of answering these bytes in this state
abbrev pub Obeys : {S E : Type 0} → State → List ℕ → List ℕ → Known → Memory → Memory → Result (S × Reply) E → Type 0
Obeys state text draw known before after (Ok told) = IsOrderAnswered state text draw known told.1 before after
Obeys state text draw known before after (Err stop) = IsOrderCut state text draw after

-- unless an order is done or power fails, all that the device remembers stays, with the trees that it keeps
abbrev pub LeavesKnown : {S E : Type 0} → Result (S × Reply) E → Known → Known → Type 0
LeavesKnown (Ok told) before after = is_done told.1 ≡ false → after ≡ before
LeavesKnown (Err stop) before after = Unit {0}

-- an order that these bytes spell makes this many keys: the entries that it appends name them
abbrev pub MakesKeys : State → List ℕ → List ℕ → ℕ → Type 0
MakesKeys state text draw count =
    (order : Order) → Spells order_format text order
    → keys_made_by (bodies_for state order draw).entries ≡ count
