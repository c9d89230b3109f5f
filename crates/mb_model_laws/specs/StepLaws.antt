-- Laws of the machine. Can a device leave the states that it can have?
use Rattle.std.specs.Prelude.{◌≡◌, ℕ, List}
use Rattle.mb_model.specs.declared.event.Event.{Event}
use Rattle.mb_model.specs.declared.event.Answered.{Answered}
use Rattle.mb_model.specs.declared.reply.Reply.{Reply}
use Rattle.mb_model.specs.declared.order.Order.{Order}
use Rattle.mb_model.specs.declared.state.State.{State}
use Rattle.mb_model.specs.machine.OrderEffects.{log_with, ready_for, own_entry, state_after_order}
use Rattle.mb_model.specs.machine.Machine.{World, Step, Run}
use Rattle.mb_model.specs.memories.Valid.{Valid}

-- each step from a valid state leads to a valid state
abbrev pub StepsStayValid : Type 0
StepsStayValid =
    (world : World) (event : Event) (answer : Reply) (next : World) → Valid world.state → Step world event answer next
    → Valid next.state

-- each run from a valid state leads to a valid state
abbrev pub RunsStayValid : Type 0
RunsStayValid =
    (world : World) (answered : List Answered) (next : World) → Valid world.state → Run world answered next
    → Valid next.state

-- an order that is obeyed appends its own entry to the log of the state that is ready for it
abbrev pub OrdersAppendTheirEntry : Type 0
OrdersAppendTheirEntry =
    (state : State) (order : Order) (draw : List ℕ)
    → (state_after_order state order draw).log
    ≡ log_with (ready_for state order draw) (own_entry (ready_for state order draw) order draw)
