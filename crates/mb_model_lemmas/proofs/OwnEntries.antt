-- What an order appends to the log.
use Rattle.std.proofs.Common.{◌≡◌, ℕ, List, refl}
use Rattle.mb_model.specs.declared.order.Act.{Act}
use Rattle.mb_model.specs.declared.order.Act.TheVariants as act
use Rattle.mb_model.specs.declared.order.Order.{Order}
use Rattle.mb_model.specs.declared.state.State.{State}
use Rattle.mb_model.specs.machine.OrderChecks.{view_of}
use Rattle.mb_model.specs.machine.OrderEffects.{log_with, state_after_change, state_after_new_key, ready_for, state_after_act, own_entry, state_after_order, entry_of, fact_of}

carried_appends : (ready : State) (order : Order) (a : Act) (draw : List ℕ) → (state_after_act ready order a draw).log ≡ log_with ready (entry_of (view_of ready) (fact_of ready.layers order a) draw)
unfolding state_after_change state_after_new_key
carried_appends ready order (act.Establish owner trust) draw = refl
carried_appends ready order act.Surrender draw = refl
carried_appends ready order (act.Load payload) draw = refl
carried_appends ready order (act.Emergency payload) draw = refl
carried_appends ready order (act.NewKey kind) draw = refl

pub appends_own : (state : State) (order : Order) (draw : List ℕ)
    → (state_after_order state order draw).log ≡ log_with (ready_for state order draw) (own_entry (ready_for state order draw) order draw)
unfolding state_after_order
appends_own state order draw = carried_appends (ready_for state order draw) order order.act draw
