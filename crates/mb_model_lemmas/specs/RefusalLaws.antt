-- Laws of the machine: what a refusal leaves, and that an event has one outcome. Can a refused event change anything?
use Rattle.std.specs.Prelude.{◌≡◌, ℕ, ◌≤◌, ◌⊎◌, List, None}
use Rattle.mb_format.specs.Format.{IsBytes}
use Rattle.mb_model.specs.declared.event.Event.{Event}
use Rattle.mb_model.specs.declared.event.Event.TheVariants as event
use Rattle.mb_model.specs.declared.order.Order.{Order}
use Rattle.mb_model.specs.declared.reply.Reply.{Reply}
use Rattle.mb_model.specs.declared.reply.Reply.TheVariants as reply
use Rattle.mb_model.specs.declared.state.State.{State}
use Rattle.mb_model.specs.declared.state.View.{View}
use Rattle.mb_model.specs.declared.reply.OrderRefusal.{OrderRefusal}
use Rattle.mb_model.specs.machine.OrderChecks.{Fails, Passes}
use Rattle.mb_model.specs.machine.OrderStep.{OrderStep}
use Rattle.mb_model.specs.machine.Machine.{Phase, off, dead, ratchet, World, Machine, Step}

-- the phase is the same, except that a dead device that is booted is then on
abbrev pub PhaseStays : World → Event → World → Type 0
PhaseStays world given next =
    (next.phase ≡ world.phase)
    ⊎ ((given ≡ event.Boot) × (world.state ≡ None) × (world.phase ≡ off) × (next.phase ≡ dead))

-- an event leaves the state, whether a power loss is armed, and the phase
pub record Leaves (world : World) (given : Event) (next : World) : Type 0 where
  pub state : next.state ≡ world.state
  pub armed : next.armed ≡ world.armed
  pub phase : PhaseStays world given next

-- a refused event leaves the state, whether a power loss is armed, and the phase
abbrev pub RefusalsLeave : Type 0
RefusalsLeave =
    (world : World) (given : Event) (n : ℕ) (next : World) → Step world given (reply.Refused n) next
    → Leaves world given next

-- an event for which no memory is found changes nothing
abbrev pub NoMemoryLeaves : Type 0
NoMemoryLeaves = (world : World) (given : Event) (next : World) → Step world given reply.NoMemory next → next ≡ world

-- the machine's own answer is never that memory is lacking, or that power failed
abbrev pub MachineIsWhole : Type 0
MachineIsWhole =
    (world : World) (given : Event) (answer : Reply) (next : World) → Machine world given answer next
    → (answer ≡ reply.NoMemory → ⊥) × (answer ≡ reply.Stopped → ⊥)

-- an order fails one check at most
abbrev pub OneFailure : Type 0
OneFailure = (view : View) (order : Order) (a b : OrderRefusal) → Fails view order a → Fails view order b → a ≡ b

-- an order that passes fails no check
abbrev pub PassesFailNothing : Type 0
PassesFailNothing =
    (view : View) (order : Order) (refusal : OrderRefusal) → Passes view order → Fails view order refusal → ⊥

-- no order neither passes nor fails a check
abbrev pub PassesOrFails : Type 0
PassesOrFails =
    (view : View) (order : Order) → (Passes view order → ⊥)
    → ((refusal : OrderRefusal) → Fails view order refusal → ⊥) → ⊥

-- bytes that are given as an order have one answer, and lead to one state
abbrev pub OneOrderStep : Type 0
OneOrderStep =
    (state : State) (text draw : List ℕ) (a b : Reply) (m n : State) → IsBytes text
    → OrderStep state text draw a m → OrderStep state text draw b n → (a ≡ b) × (m ≡ n)

-- if an event brings an order, it brings bytes
abbrev pub BringsBytes : Event → Type 0
BringsBytes (event.Order text draw) = IsBytes text
BringsBytes given = Unit {0}

-- an event has one answer of the machine, and leads to one world
abbrev pub MachineIsFunction : Type 0
MachineIsFunction =
    (world : World) (given : Event) (a b : Reply) (m n : World) → BringsBytes given
    → Machine world given a m → Machine world given b n → (a ≡ b) × (m ≡ n)

-- a layer that runs is layer 1, 2 or 3
abbrev pub IsPhase : Phase → Type 0
IsPhase off = Unit {0}
IsPhase dead = Unit {0}
IsPhase (ratchet r) = (1 ≤ r) × (r ≤ 3)

-- if a layer that runs is layer 1, 2 or 3, so it is after each step
abbrev pub PhasesStayPhases : Type 0
PhasesStayPhases =
    (world : World) (given : Event) (answer : Reply) (next : World) → IsPhase world.phase → Step world given answer next
    → IsPhase next.phase

-- if a layer that runs is layer 1, 2 or 3, no event is without an answer
abbrev pub MachineAnswers : Type 0
MachineAnswers =
    (world : World) (given : Event) → IsPhase world.phase → BringsBytes given
    → ((answer : Reply) (next : World) → Machine world given answer next → ⊥) → ⊥
