-- Whole histories of devices: runs one after another. What happens to a device between two calls of the program?
use Rattle.std.specs.Prelude.{◌≡◌, ◌⊎◌, List, [], ◌∷◌, ◌++◌, All, Option}
use Rattle.mb_model.specs.declared.event.Answered.{Answered}
use Rattle.mb_model.specs.declared.event.Event.TheVariants as event
use Rattle.mb_model.specs.declared.reply.Reply.TheVariants as reply
use Rattle.mb_model.specs.declared.state.State.{State}
use Rattle.mb_model.specs.machine.Machine.{World, opening_world, Run}

-- Runs of a device one after another, from one state to another: each begins with power off and no power loss armed,
-- from the state in which the one before it ended.
abbrev pub History : Option State → List (List Answered) → Option State → Type 0
History first [] last = last ≡ first
History first (run ∷ runs) last = (world : World) × Run (opening_world first) run world × History world.state runs last

-- the answered events of all runs, in order
abbrev pub all_answered : List (List Answered) → List Answered
all_answered [] = []
all_answered (run ∷ runs) = run ++ all_answered runs

-- One world comes after another in a history: a run leads there, which may have no events, or it comes after the
-- beginning of a later run.
pub data ComesAfter (there : World) : World → Type 0 where
  in_this_run : {here : World} (answered : List Answered) → Run here answered there → ComesAfter there here
  in_a_later_run : {here : World} (answered : List Answered) (end : World) → Run here answered end
      → ComesAfter there (opening_world end.state) → ComesAfter there here

-- ---- histories as runs

-- an event before a run: power went off, or it failed at the boot after that, since a power loss was armed
abbrev pub IsPause : Answered → Type 0
IsPause this =
    (this ≡ record { event = event.Off; reply = reply.Off })
    ⊎ (this ≡ record { event = event.Boot; reply = reply.Stopped })

-- the answered events are those of the runs, in order, with such events before each
abbrev pub IsJoined : List (List Answered) → List Answered → Type 0
IsJoined [] joined = joined ≡ []
IsJoined (run ∷ runs) joined =
    (pause rest : List Answered) × All IsPause pause × IsJoined runs rest × (joined ≡ pause ++ run ++ rest)
