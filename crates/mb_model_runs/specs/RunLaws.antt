-- Laws of runs. Does a device ever take back what its log says, or a key sign twice with one index?
use Rattle.std.specs.Prelude.{◌≡◌, List, [], ◌∷◌, All, AllPairs}
use Rattle.mb_model.specs.declared.event.Answered.{Answered}
use Rattle.mb_model.specs.memories.Acknowledged.{HoldsNoOther, AreWiping, MayAnswer}
use Rattle.mb_model.specs.outside.Board.{Held}
use Rattle.mb_model.specs.machine.Machine.{World, Run}
use Rattle.mb_model.specs.chains.Script.{IsScriptEvent}
use Rattle.mb_model.specs.memories.Valid.{Valid}
use Rattle.mb_model.specs.machine.Runs.{worlds_of, LogGoesOn, StatementsStayAccepted, IsSoundRun}
use Rattle.mb_model_memory.specs.Storable.{Storable}

-- The log of each world of a run is a prefix of that of each later live one.
abbrev pub LogsOnlyGrow : Type 0
LogsOnlyGrow =
    (world : World) (answered : List Answered) (next : World) (run : Run world answered next)
    → AllPairs LogGoesOn (worlds_of world answered next run)

-- The log at the start of a run is a prefix of that at its end, if the device is then alive.
abbrev pub LogsGrowOverRuns : Type 0
LogsGrowOverRuns =
    (world : World) (answered : List Answered) (next : World) → Run world answered next → LogGoesOn world next

-- A run from a state that a device can have is sound throughout, whatever its events.
abbrev pub RunsAreSound : Type 0
RunsAreSound =
    (world : World) (answered : List Answered) (next : World) (run : Run world answered next)
    → Valid world.state → IsSoundRun world answered next run

-- Each statement that is answered stays accepted, if a script can give the events and the first state can be stored. A
-- statement of a longer message than those of scripts has no spelling.
abbrev pub StatementsOfRunsStayAccepted : Type 0
StatementsOfRunsStayAccepted =
    (world : World) (answered : List Answered) (next : World) (run : Run world answered next)
    → All (λ this. IsScriptEvent this.event) answered → Valid world.state → Storable world.state
    → StatementsStayAccepted world answered next run

-- ---- what a board holds at its answers

-- what a board holds at one answer after another, each of which it may take
abbrev pub MayAnswerAll : Held → List Answered → Held → Type 0
MayAnswerAll standing [] now = now ≡ standing
MayAnswerAll standing (this ∷ rest) now =
    (mid : Held) × MayAnswer standing mid this.event this.reply × MayAnswerAll mid rest now

-- At each answer, no secret lies in battery-backed memory but those of the state, if no power loss has stopped the
-- device since it last booted or was tampered with.
abbrev pub AnswersLeaveClean : Type 0
AnswersLeaveClean =
    (standing : Held) (answered : List Answered) (now : Held)
    → MayAnswerAll standing answered now → AreWiping answered → HoldsNoOther now
