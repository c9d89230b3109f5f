-- The events in which layers use their regions. What is the outcome of such a use, wherever control is?
use Rattle.std.specs.Prelude.{ℕ}
use Rattle.mb_model.specs.declared.event.Event.{Event}
use Rattle.mb_model.specs.declared.event.Event.TheVariants as event
use Rattle.mb_model.specs.declared.reply.Reply.TheVariants as reply
use Rattle.mb_model.specs.declared.state.State.{State}
use Rattle.mb_model.specs.machine.LayerEvents.{Outcome, put_event, get_event, drop_event, sign_event}

-- the event is a layer's use of its region; a call is none, since its outcome is a relation
abbrev pub IsLayerEvent : Event → Type 0
IsLayerEvent (event.Put L name value) = Unit {0}
IsLayerEvent (event.Get L name) = Unit {0}
IsLayerEvent (event.Drop L name) = Unit {0}
IsLayerEvent (event.Sign L key message) = Unit {0}
IsLayerEvent other = ⊥

-- the region that the event names, by the number of its layer
abbrev pub region_named : Event → ℕ
region_named (event.Put L name value) = L
region_named (event.Get L name) = L
region_named (event.Drop L name) = L
region_named (event.Sign L key message) = L
region_named (event.Call L key input) = L
region_named other = 0

-- the outcome of the event in the region of layer L
abbrev pub layer_outcome : ℕ → Event → State → Outcome
layer_outcome L (event.Put M name value) state = put_event L name value state
layer_outcome L (event.Get M name) state = get_event L name state
layer_outcome L (event.Drop M name) state = drop_event L name state
layer_outcome L (event.Sign M key message) state = sign_event L key message state
layer_outcome L other state = (reply.NoMemory, state)
