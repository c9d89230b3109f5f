-- The result of serving the events of a board. Is each event answered, once and in order, by one step of the machine?
use Rattle.std.specs.Prelude.{◌≡◌, ◌≢◌, ◌⊎◌, ◌++◌, List, [], map, All, Some}
use Rattle.mb_model.specs.declared.event.Answered.{Answered}
use Rattle.mb_model.specs.declared.state.State.{State}
use Rattle.mb_model.specs.memories.Acknowledged.{Shows, AreWiping, LeavesMemory, LeavesCleanMemory}
use Rattle.mb_model.specs.outside.Board.{Held, Ledger, AreBytes}
use Rattle.mb_model.specs.memories.Clean.{Clean}
use Rattle.mb_model.specs.machine.Machine.{World, Run, off}
use Rattle.mb_model.specs.memories.Valid.{Valid}

-- All waiting events were answered, in order, by a run from this world, and the board then holds the world to which the
-- run led.
pub record IsServedFrom (world : World) (before after : Ledger) (held : Held) : Type 0 where
  pub more : List Answered
  pub grown : after.answered ≡ before.answered ++ more
  pub all : map (λ a. a.event) more ≡ before.waiting
  pub none_waits : after.waiting ≡ []
  pub last : World
  pub run : Run world more last
  pub shown : Shows held last
  pub valid : Valid last.state
  pub bytes : AreBytes held.memory
  -- if no answer tells of a change, and no event is a tamper, the memory is as before
  pub untouched : All LeavesMemory more → held.memory ≡ before.standing.memory
  -- the same with boots, if the memory was clean
  pub quiet : (state : State) → Clean before.standing.memory.bbram (Some state) → All LeavesCleanMemory more
      → held.memory ≡ before.standing.memory
  -- the memory holds no secrets but those of the state: while power is on, and while it is off if no power loss has
  -- stopped the device since it last booted or was tampered with
  pub clean : (held.phase ≢ off) ⊎ AreWiping more → Clean held.memory.bbram last.state
