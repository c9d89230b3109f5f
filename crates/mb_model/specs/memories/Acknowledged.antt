-- When a board takes an answer. Is what a device acknowledges already stored, and nothing beyond it?
use Rattle.std.specs.Prelude.{◌≡◌, ◌≢◌, ◌⊎◌, List, ◌∷◌, ◌++◌, All, Some, false}
use Rattle.mb_model.specs.declared.event.Answered.{Answered}
use Rattle.mb_model.specs.declared.event.Event.{Event}
use Rattle.mb_model.specs.declared.event.Event.TheVariants.{Boot, Tamper}
use Rattle.mb_model.specs.declared.reply.Reply.{Reply}
use Rattle.mb_model.specs.declared.reply.Reply.TheVariants.{Booted, Stopped}
use Rattle.mb_model.specs.declared.state.State.{State}
use Rattle.mb_model.specs.outside.Board.{Held, memory_after}
use Rattle.mb_model.specs.memories.Clean.{Clean}
use Rattle.mb_model.specs.machine.Machine.{World, Step, off, may_have_written}
use Rattle.mb_model.specs.memories.Meaning.{StandsFor}
use Rattle.mb_model.specs.owners.Regions.{KeptRightly}
use Rattle.mb_model.specs.memories.Spared.{SparesSectors}
use Rattle.mb_model.specs.memories.Valid.{Valid}

-- what a board holds shows this world: the state that its memory means, its phase, and whether a power loss is armed
pub record Shows (held : Held) (world : World) : Type 0 where
  pub stands : StandsFor held.memory.flash held.memory.bbram world.state
  pub phase : world.phase ≡ held.phase
  pub armed : world.armed ≡ held.armed

-- ---- what may lie in battery-backed memory

-- a board's battery-backed memory holds no secrets but those of the state that the board shows
pub record HoldsNoOther (held : Held) : Type 0 where
  pub world : World
  pub shown : Shows held world
  pub clean : Clean held.memory.bbram world.state

-- When battery-backed memory may hold no secrets after an answer but those of the state. The board held `standing` at
-- the answer before, and holds `now`. It is asked while power is off too: else a body could put an old secret back once
-- it is off.
pub data HasToBeClean (standing now : Held) (event : Event) (reply : Reply) : Type 0 where
  -- power is on
  power_is_on : now.phase ≢ off → HasToBeClean standing now event reply
  -- the device was tampered with
  device_was_tampered : event ≡ Tamper → HasToBeClean standing now event reply
  -- battery-backed memory held no other secrets before, and power did not fail
  nothing_was_left : HoldsNoOther standing → reply ≢ Stopped → HasToBeClean standing now event reply

-- The device has booted or been tampered with, and no power loss has stopped it since.
pub record AreWiping (answered : List Answered) : Type 0 where
  pub sooner : List Answered
  pub wiping : Answered
  pub later : List Answered
  pub split : answered ≡ sooner ++ wiping ∷ later
  pub wipes : (wiping.reply ≡ Booted) ⊎ (wiping.event ≡ Tamper)
  pub unstopped : All (λ each. each.reply ≢ Stopped) later

-- ---- what stays

-- The answer tells of no change, and the event is no tamper: the memory is left as it was.
pub record LeavesMemory (each : Answered) : Type 0 where
  pub untold : may_have_written each.reply ≡ false
  pub untampered : each.event ≢ Tamper

-- At this answer a clean memory is left as it was: the reply tells of no change, or the event is a boot.
abbrev pub LeavesCleanMemory : Answered → Type 0
LeavesCleanMemory each = LeavesMemory each ⊎ (each.event ≡ Boot)

-- ---- an answer

-- A board that held `standing` at the answer before, and holds `now`, may answer the event with this reply: one step
-- leads from the world before to the world now, whose state a device can have; each secret and key of that state was
-- kept rightly; and battery-backed memory is clean if it has to be. If the reply tells of no change, nothing was
-- written beyond what handing out the event does, and nothing at a boot of a clean memory. The sectors that hold a
-- signed entry of the log keep their bytes, and so do those that hold nothing. That a device can have the state is
-- asked beside that secrets were kept rightly: any log would keep a secret with a number from the future rightly.
pub record MayAnswer (standing now : Held) (event : Event) (reply : Reply) : Type 0 where
  pub before : World
  pub after : World
  pub stood : Shows standing before
  pub shown : Shows now after
  pub step : Step before event reply after
  pub valid : Valid after.state
  pub clean : HasToBeClean standing now event reply → Clean now.memory.bbram after.state
  pub kept : KeptRightly after.state
  pub untouched : may_have_written reply ≡ false → now.memory ≡ memory_after (Some event) standing.memory
  pub quiet : event ≡ Boot → (state : State) → Clean standing.memory.bbram (Some state)
      → now.memory ≡ standing.memory
  pub spared : SparesSectors standing.memory now.memory
