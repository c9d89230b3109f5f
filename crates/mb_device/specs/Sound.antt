-- What a device remembers between two events, and when that fits what its board holds. Does the device itself ever know
-- better than what is stored?
use Rattle.std.specs.Prelude.{◌≡◌, ◌≢◌, ℕ, List, true, Some}
use Rattle.mb_model.specs.declared.event.Event.{Event}
use Rattle.mb_model.specs.declared.event.Event.TheVariants as event
use Rattle.mb_model.specs.declared.reply.Reply.{Reply}
use Rattle.mb_model.specs.declared.state.State.{State}
use Rattle.mb_model.specs.memories.Acknowledged.{Shows}
use Rattle.mb_model.specs.outside.Board.{Held, memory_after}
use Rattle.mb_model.specs.memories.Clean.{Clean}
use Rattle.mb_model.specs.machine.Machine.{World, Step, off, dead, ratchet}
use Rattle.mb_model.specs.chains.Script.{IsScriptEvent}
use Rattle.mb_model.specs.memories.Valid.{Valid}
use Rattle.mb_device_orders.specs.Remembering.{Knows, KnowsCode}
use Rattle.mb_device.specs.declared.device.Device.{Device}
use Rattle.mb_device.specs.declared.device.Device.TheVariants as device
use Rattle.mb_device_orders.specs.declared.remembering.Running.{Running}

-- layer r runs in a live device, whose state is remembered, and where its codes stand in the flash
pub record IsRunning (r : ℕ) (running : Running) (flash : List ℕ) (world : World) : Type 0 where
  pub phase : world.phase ≡ ratchet r
  pub state : State
  pub live : world.state ≡ Some state
  pub knows : Knows running.known state
  pub codes : KnowsCode running.known flash state

-- what the device remembers fits the flash and the world
abbrev pub Fits : Device → List ℕ → World → Type 0
Fits (device.Off state) flash world = world.phase ≡ off
Fits (device.Dead state) flash world = world.phase ≡ dead
Fits (device.One state running) flash world = IsRunning 1 running flash world
Fits (device.Two state running) flash world = IsRunning 2 running flash world
Fits (device.Three state running) flash world = IsRunning 3 running flash world

-- A sound device: its board holds this world, which a device can have, the memory is clean while power is on, and what
-- the device remembers fits the flash and the world.
pub record IsSoundDevice (device : Device) (held : Held) (world : World) : Type 0 where
  pub shown : Shows held world
  pub valid : Valid world.state
  pub clean : held.phase ≢ off → Clean held.memory.bbram world.state
  pub fits : Fits device held.memory.flash world

-- the device is sound for some world
pub record HasSound (device : Device) (held : Held) : Type 0 where
  pub world : World
  pub sound : IsSoundDevice device held world

-- ---- one event

-- what a board holds once it has handed out an event
abbrev pub taken : Event → Held → Held
taken event.Off held = record held { phase = off }
taken event.Tamper held =
    record { memory = memory_after (Some event.Tamper) held.memory; phase = off; armed = held.armed }
taken (event.Cut count tear) held = record held { armed = true }
taken event.Boot held = held
taken event.Status held = held
taken event.Go held = held
taken (event.Order text draw) held = held
taken (event.Put L name value) held = held
taken (event.Get L name) held = held
taken (event.Drop L name) held = held
taken (event.Sign L key message) held = held
taken (event.Call L key input) held = held

-- the device was sound before the board handed out this event, which is one of a script
pub record CanStep (device : Device) (event : Event) (now : Held) : Type 0 where
  pub before : Held
  pub has : HasSound device before
  pub taken_so : now ≡ taken event before
  pub script : IsScriptEvent event

-- the event with this answer is one step of the machine from this world, to one for which the device is now sound
pub record Steps (world : World) (event : Event) (answer : Reply) (device : Device) (now : Held) : Type 0 where
  pub next : World
  pub step : Step world event answer next
  pub sound : IsSoundDevice device now next

-- the answer is one step of the machine, from each world for which the device was sound before
abbrev pub StepsFrom : Device → Held → Event → (Device × Reply) → Held → Type 0
StepsFrom before old event told now =
    (world : World) → IsSoundDevice before old world → Steps world event told.1 told.0 now
