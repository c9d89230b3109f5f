-- Runs in which memory is found and power holds. To which state does the machine by itself take a device?
use Rattle.std.specs.Prelude.{◌≡◌, ◌≢◌, Bool, true, false, List, [], ◌∷◌, map, All, Option}
use Rattle.mb_model.specs.declared.event.Event.{Event}
use Rattle.mb_model.specs.declared.event.Event.TheVariants as event
use Rattle.mb_model.specs.declared.event.Answered.{Answered}
use Rattle.mb_model.specs.declared.reply.Reply.{Reply}
use Rattle.mb_model.specs.declared.reply.Reply.TheVariants as reply
use Rattle.mb_model.specs.declared.state.State.{State}
use Rattle.mb_model.specs.machine.Machine.{World, Machine, Run, opening_world}

-- the events lead from one world to another, each with the machine's own answer
abbrev pub MachineRun : World → List Event → World → Type 0
MachineRun world [] next = next ≡ world
MachineRun world (this ∷ rest) next =
    (answer : Reply) × (mid : World) × Machine world this answer mid × MachineRun mid rest next

-- over these events the machine takes a device from the first state to the second
pub record MachineComesTo (first : Option State) (events : List Event) (second : Option State) : Type 0 where
  pub last : World
  pub run : MachineRun (opening_world first) events last
  pub state : last.state ≡ second

-- the event arms a power loss
abbrev pub is_cut : Event → Bool
is_cut event.Boot = false
is_cut event.Off = false
is_cut event.Tamper = false
is_cut event.Status = false
is_cut event.Go = false
is_cut (event.Cut count tear) = true
is_cut (event.Order text draw) = false
is_cut (event.Put region name value) = false
is_cut (event.Get region name) = false
is_cut (event.Drop region name) = false
is_cut (event.Sign region key message) = false
is_cut (event.Call region key input) = false

-- no power loss is armed by the event, and memory was found for it
pub record IsPlain (answered : Answered) : Type 0 where
  pub uncut : is_cut answered.event ≡ false
  pub found : answered.reply ≢ reply.NoMemory

-- A run of plain events that begins with no power loss armed is the machine's own.
abbrev pub PlainRunsAreTheMachines : Type 0
PlainRunsAreTheMachines =
    (world : World) (list : List Answered) (next : World) → world.armed ≡ false → All IsPlain list
    → Run world list next → MachineRun world (map (λ a. a.event) list) next
