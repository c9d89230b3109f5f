-- What the command `run` does. Do the replies and the new image come from one and the same run?
use Rattle.std.specs.Prelude.{◌≡◌, ◌≢◌, ◌⊎◌, ℕ, List, map, All, Some}
use Rattle.mb_model.specs.declared.event.Event.{Event}
use Rattle.mb_model.specs.declared.event.Answered.{Answered}
use Rattle.mb_model.specs.declared.state.State.{State}
use Rattle.mb_model.specs.machine.Machine.{World, Run, opening_world, off}
use Rattle.mb_model.specs.outside.Board.{Memory, Held, IsLoaded, AreBytes, image_of}
use Rattle.mb_model.specs.memories.Acknowledged.{Shows, AreWiping, LeavesMemory, LeavesCleanMemory}
use Rattle.mb_model.specs.memories.Clean.{Clean}
use Rattle.mb_model.specs.owners.Regions.{KeptRightly}
use Rattle.mb_model.specs.machine.Runs.{IsSoundRun, StatementsStayAccepted}
use Rattle.mb_model.specs.chains.Replies.{replies_text}
use Rattle.mb_model_commands.specs.declared.role.Role.TheVariants as role
use Rattle.mb_model_commands.specs.Inputs.{Image, image_input, script_input, draws_input}
use Rattle.mb_model_commands.specs.Commands.{Command, read, load, serve, write, print}

-- the names of the files
pub record RunNames : Type 0 where
  pub image : List ℕ
  pub script : List ℕ
  pub noise : List ℕ

-- an image of a live device, in whose battery-backed memory lie no secrets but those of a state
pub record IsCleanImage (image : Image) : Type 0 where
  pub memory : Memory
  pub sized : IsLoaded memory
  pub same : image_of memory ≡ image.bytes
  pub state : State
  pub clean : Clean memory.bbram (Some state)

-- The events were answered, all and in order, by a run of the machine from the state of the image that was loaded. What
-- the board held at the last answer shows the world in which that run ended. `untouched` and `quiet` are said of the
-- whole list of answers, since a reader of `ends` sees no single answer of the board.
pub record IsServed
    (image : Image)
    (events : List Event)
    (answered : List Answered)
    (final : Held) : Type 0 where
  pub all : map (λ each. each.event) answered ≡ events
  pub last : World
  pub run : Run (opening_world image.state) answered last
  pub shown : Shows final last
  pub bytes : AreBytes final.memory
  -- No secret lies in battery-backed memory but those of the state, while power is on, and also while it is off if no
  -- power loss has stopped the device since it last booted or was tampered with.
  pub clean : (final.phase ≢ off) ⊎ AreWiping answered → Clean final.memory.bbram last.state
  -- since each secret and key of the state came into its region, its layer has admitted each change of itself or
  -- beneath it
  pub kept : KeptRightly last.state
  pub sound : IsSoundRun (opening_world image.state) answered last run
  pub accepted : StatementsStayAccepted (opening_world image.state) answered last run
  -- if no answer tells of a change, and no event is a tamper, the memory holds the image that was loaded, byte for byte
  pub untouched : All LeavesMemory answered → image_of final.memory ≡ image.bytes
  -- the same with boots among the events, if the image is clean
  pub quiet : IsCleanImage image → All LeavesCleanMemory answered → image_of final.memory ≡ image.bytes

-- Image, script and noise are read, the image is loaded, and the events of the script are served with their draws. The
-- new image is written over the old one, and then the replies are printed. The image is checked whole before the script
-- is read, although a device reads at its boot what it needs: no event is served on an image that means nothing.
unfoldable pub run : RunNames → Command
run names =
    read (image_input names.image) (λ image.
    read (script_input names.script) (λ undrawn.
    read (draws_input undrawn names.noise) (λ events.
    load image.bytes
    (serve (IsServed image events) (λ answered final.
    write (record { role = role.Image; name = names.image; bytes = image_of final.memory })
    (print (replies_text answered)))))))
