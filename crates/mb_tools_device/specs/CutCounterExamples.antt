-- Values for which the definition of `cutat` does not hold; the checker refutes each line. Can it be met by anything?
use Rattle.std.specs.Prelude.{◌≢◌, ℕ, ◌≤◌, List, [], ◌∷◌, ◌++◌, length, Option}
use Rattle.mb_model.specs.declared.event.Event.{Event}
use Rattle.mb_model.specs.declared.event.Event.TheVariants as event
use Rattle.mb_model.specs.declared.event.Tear.{Tear}
use Rattle.mb_model.specs.declared.event.Answered.{Answered}
use Rattle.mb_model.specs.declared.reply.Reply.TheVariants as reply
use Rattle.mb_model.specs.declared.state.State.{State}
use Rattle.mb_model.specs.outside.Board.{Held}
use Rattle.mb_model_commands.specs.Inputs.{Image}
use Rattle.mb_tools_device.specs.MachineRuns.{MachineComesTo}
use Rattle.mb_tools_device.specs.CutCommand.{CutRun, IsCutRun, IsUncutScript, LastIsStopped, IsCutServed}

pub record CutCounterExamples : Type 0 where
  -- scripts that cannot be cut: without an event, and with a cut
  pub empty : (lines : List (List ℕ)) → IsUncutScript lines [] → ⊥
  pub cut : (lines : List (List ℕ)) (count : ℕ) (tear : Tear) (rest : List Event)
      → IsUncutScript lines (event.Cut count tear ∷ rest) → ⊥
  -- the events of a run that has another last event, or none
  pub none : (fill_word : List ℕ) (run : CutRun) → IsCutRun fill_word [] run → ⊥
  pub other : (fill_word : List ℕ) (run : CutRun) (last : Event)
      → run.last ≢ last → IsCutRun fill_word (last ∷ []) run → ⊥
  -- power did not fail in the last event if fewer than three events were answered, or if its reply is another
  pub few : (answered : List Answered) → length answered ≤ 2 → LastIsStopped answered → ⊥
  pub told : (before : List Answered) (last boot off : Answered) → last.reply ≢ reply.Stopped
      → LastIsStopped (before ++ last ∷ boot ∷ off ∷ []) → ⊥
  -- over no events the machine comes to no other state than the first
  pub moved : (first second : Option State) → first ≢ second → MachineComesTo first [] second → ⊥
  -- nothing was answered in the second run
  pub unserved : (image : Image) (count : ℕ) (run : CutRun) (final : Held)
      → IsCutServed image count run [] final → ⊥
