-- What `old` and `new` of `cutat` tell. Is `new` the state after the event, and no other?
use Rattle.std.specs.Prelude.{◌⊎◌, List, ◌∷◌, ◌++◌, [], ℕ, All, Option}
use Rattle.mb_model.specs.declared.event.Answered.{Answered}
use Rattle.mb_model.specs.declared.state.State.{State}
use Rattle.mb_model.specs.outside.Board.{Held}
use Rattle.mb_model_commands.specs.Inputs.{Image}
use Rattle.mb_model_lemmas.specs.RefusalLaws.{BringsBytes}
use Rattle.mb_tools_device.specs.MachineRuns.{MachineComesTo}
use Rattle.mb_tools_device.specs.CutCommand.{CutRun, AnyLacksMemory, LastIsStopped, ShowsState, ShowSame}
use Rattle.mb_tools_device.specs.CutCommand.{IsRehearsed, IsCutServed}

-- what a board holds shows the state to which the machine takes the image's device over all events of the script
pub record HoldsStateAfter (image : Image) (cut : CutRun) (final : Held) : Type 0 where
  pub state : Option State
  pub shown : ShowsState final state
  pub comes : MachineComesTo image.state (cut.first ++ cut.last ∷ []) state

-- The bytes of orders are bytes, both runs were served, no allocation failed, and power failed in the last event. Then
-- both runs leave one state, which `old` tells; or the second run leaves the machine's state after the last event.
abbrev pub CutsCountWhollyOrNotAtAll : Type 0
CutsCountWhollyOrNotAtAll =
    (image : Image) (count : ℕ) (cut : CutRun) (first second : List Answered) (held final : Held)
    → All BringsBytes cut.first
    → IsRehearsed image cut first held → (AnyLacksMemory first → ⊥)
    → IsCutServed image count cut second final → (AnyLacksMemory second → ⊥) → LastIsStopped second
    → ShowSame held final ⊎ HoldsStateAfter image cut final
