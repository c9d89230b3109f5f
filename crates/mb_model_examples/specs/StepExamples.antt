-- The machine at work on a small device; the checker computes each line. What does each event do in each phase, and
-- what can a power loss leave?
use Rattle.std.specs.Prelude.{◌≡◌, ◌⊎◌, ℕ, List, replicate, true, false, Option, None}
use Rattle.mb_model.specs.declared.event.Event.{Event}
use Rattle.mb_model.specs.declared.event.Event.TheVariants as event
use Rattle.mb_model.specs.declared.event.Tear.{Tear}
use Rattle.mb_model.specs.declared.reply.Reply.{Reply}
use Rattle.mb_model.specs.declared.reply.Reply.TheVariants as reply
use Rattle.mb_model.specs.declared.reply.Standing.TheVariants as stands
use Rattle.mb_model.specs.declared.state.State.{State}
use Rattle.mb_model.specs.machine.OrderStep.{OrderStep}
use Rattle.mb_model.specs.machine.Machine.{Phase, off, dead, ratchet, World, Machine, Step, status_of}
use Rattle.mb_model_lemmas.specs.RefusalLaws.{BringsBytes}
use Rattle.mb_model_examples.specs.Device.{alive, two_doubted, three_doubted, world_at, dead_world}

-- an event is refused with this number, and nothing changes
abbrev pub Refuses : World → Event → ℕ → Type 0
Refuses world event n = Machine world event (reply.Refused n) world

-- ---- the table of phases

-- boot
pub record BootExamples (state : State) : Type 0 where
  pub at_off : Machine (world_at off state) event.Boot reply.Booted (world_at (ratchet 1) state)
  pub at_off_without_state : Machine (dead_world off) event.Boot (reply.Refused 3) (dead_world dead)
  pub at_dead : Refuses (dead_world dead) event.Boot 3
  pub at_one : Refuses (world_at (ratchet 1) state) event.Boot 2
  pub at_two : Refuses (world_at (ratchet 2) state) event.Boot 2
  pub at_three : Refuses (world_at (ratchet 3) state) event.Boot 2

-- off, tamper and cut are answered in each phase, and on a dead device too
pub record AlwaysExamples (world : World) : Type 0 where
  pub off_event : Machine world event.Off reply.Off (record world { phase = off })
  pub tamper : Machine world event.Tamper reply.Tampered (record world { phase = off; state = None })
  pub cut : (count : ℕ) (tear : Tear) → Machine world (event.Cut count tear) reply.Armed (record world { armed = true })

-- every other event is refused with this number
pub record RefusesOthers (world : World) (n : ℕ) : Type 0 where
  pub status : Refuses world event.Status n
  pub command : (text draw : List ℕ) → Refuses world (event.Order text draw) n
  pub go : Refuses world event.Go n
  pub put : (L : ℕ) (name value : List ℕ) → Refuses world (event.Put L name value) n
  pub get : (L : ℕ) (name : List ℕ) → Refuses world (event.Get L name) n
  pub drop : (L : ℕ) (name : List ℕ) → Refuses world (event.Drop L name) n
  pub sign : (L key : ℕ) (message : List ℕ) → Refuses world (event.Sign L key message) n
  pub call : (L : ℕ) (key : Option ℕ) (input : List ℕ) → Refuses world (event.Call L key input) n

pub record SleepingExamples (state : State) : Type 0 where
  pub at_off : RefusesOthers (world_at off state) 1
  pub at_off_without_state : RefusesOthers (dead_world off) 1
  pub at_dead : RefusesOthers (dead_world dead) 3

-- status, orders and go while a layer runs
pub record AwakeExamples (state : State) : Type 0 where
  pub status : (r : ℕ)
      → Machine (world_at (ratchet r) state) event.Status (status_of state) (world_at (ratchet r) state)
  -- orders are judged while layer 1 runs, and refused while a higher layer does
  pub command_at_one : (text draw : List ℕ) (answer : Reply) (next : State) → OrderStep state text draw answer next
      → Machine (world_at (ratchet 1) state) (event.Order text draw) answer (world_at (ratchet 1) next)
  pub command_at_two : (text draw : List ℕ) → Refuses (world_at (ratchet 2) state) (event.Order text draw) 2
  pub command_at_three : (text draw : List ℕ) → Refuses (world_at (ratchet 3) state) (event.Order text draw) 2
  pub go_at_three : Refuses (world_at (ratchet 3) state) event.Go 2

-- control goes up one layer if that may run; and what `status` answers
pub record GoExamples (signature : List ℕ) : Type 0 where
  pub at_one : Machine (world_at (ratchet 1) (alive signature)) event.Go (reply.At 2)
      (world_at (ratchet 2) (alive signature))
  pub at_two : Machine (world_at (ratchet 2) (alive signature)) event.Go (reply.At 3)
      (world_at (ratchet 3) (alive signature))
  pub two_is_doubted : Refuses (world_at (ratchet 1) (two_doubted signature)) event.Go 4
  pub three_is_doubted : Refuses (world_at (ratchet 2) (three_doubted signature)) event.Go 4
  pub told : status_of (alive signature)
      ≡ reply.Status (replicate 16 9) 4 6 stands.Runnable stands.Runnable stands.Runnable
  pub told_doubted : status_of (two_doubted signature)
      ≡ reply.Status (replicate 16 9) 4 6 stands.Runnable stands.Unreliable stands.Reliable

-- ---- power that fails

-- a live device with an armed power loss
abbrev pub armed_at : Phase → State → World
armed_at phase state = record (world_at phase state) { armed = true }

-- the event cannot end in a stop
abbrev pub NeverStops : World → Event → Type 0
NeverStops world event = (next : World) → Step world event reply.Stopped next → ⊥

-- events that never stop: any if no power loss is armed; off, tamper, cut, status, go and get; any that is refused
pub record StopExamples (world : World) : Type 0 where
  pub unarmed : world.armed ≡ false → (given : Event) → NeverStops world given
  pub off_event : NeverStops world event.Off
  pub tamper : NeverStops world event.Tamper
  pub cut : (count : ℕ) (tear : Tear) → NeverStops world (event.Cut count tear)
  pub status : NeverStops world event.Status
  pub go : NeverStops world event.Go
  pub get : (L : ℕ) (name : List ℕ) → NeverStops world (event.Get L name)
  pub refused : (given : Event) (n : ℕ) → BringsBytes given → Refuses world given n → NeverStops world given

-- the event stops with the state as it was, or as it would have become, and with no other
pub record StopsBetween (world : World) (given : Event) (before after : State) : Type 0 where
  pub undone : Step world given reply.Stopped (world_at off before)
  pub done : Step world given reply.Stopped (world_at off after)
  pub no_other : (next : World) → Step world given reply.Stopped next
      → (next ≡ world_at off before) ⊎ (next ≡ world_at off after)

-- ---- an allocation that fails

-- no allocation of the event can fail
abbrev pub NeverWantsMemory : World → Event → Type 0
NeverWantsMemory world event = (next : World) → Step world event reply.NoMemory next → ⊥

pub record MemoryExamples (world : World) : Type 0 where
  pub boot : Step world event.Boot reply.NoMemory world
  pub status : Step world event.Status reply.NoMemory world
  pub command : (text draw : List ℕ) → Step world (event.Order text draw) reply.NoMemory world
  pub put : (L : ℕ) (name value : List ℕ) → Step world (event.Put L name value) reply.NoMemory world
  pub get : (L : ℕ) (name : List ℕ) → Step world (event.Get L name) reply.NoMemory world
  pub drop : (L : ℕ) (name : List ℕ) → Step world (event.Drop L name) reply.NoMemory world
  pub sign : (L key : ℕ) (message : List ℕ) → Step world (event.Sign L key message) reply.NoMemory world
  pub call : (L : ℕ) (key : Option ℕ) (input : List ℕ) → Step world (event.Call L key input) reply.NoMemory world
  pub go : NeverWantsMemory world event.Go
  pub off_event : NeverWantsMemory world event.Off
  pub tamper : NeverWantsMemory world event.Tamper
  pub cut : (count : ℕ) (tear : Tear) → NeverWantsMemory world (event.Cut count tear)
