-- How often a command loads a board. Does a command that serves no device touch one?
use Rattle.std.specs.Prelude.{◌≡◌, ◌≤◌, ◌⊎◌, Bool, true, false, List}
use Rattle.mb_model.specs.outside.Board.{not_used}
use Rattle.mb_model_commands.specs.Commands.{Ended, CommandEnds, at_first}
use Rattle.mb_console.specs.Words.{Argument}
use Rattle.mb_top.specs.declared.table.Command.{Command}
use Rattle.mb_top.specs.declared.table.Command.TheVariants as command
use Rattle.mb_top.specs.Top.{command_of}

-- whether a command serves a device
abbrev pub serves : Command → Bool
serves command.Run = true
serves command.Rehearse = true
serves command.Cutat = true
serves command.Generate = true
serves _ = false

-- a command with these arguments has ended so
abbrev pub EndsCalled : Command → List Argument → Ended → Type 0
EndsCalled called given ending = CommandEnds (command_of called given) at_first ending

-- a command that serves no device has loaded no board, however it ends
abbrev pub NothingIsLoaded : Ended → Type 0
NothingIsLoaded ending =
    (called : Command) (given : List Argument) → serves called ≡ false → EndsCalled called given ending
    → ending.used ≡ not_used

-- The board was never loaded, and the status is 3 or higher; or it was loaded this often, and the command is done, or
-- an output failed, or memory was lacking, or the command was refused.
abbrev pub EndsAfterLoads : Type 0 → Ended → Type 0
EndsAfterLoads Often ending =
    ((ending.used ≡ not_used) × (3 ≤ ending.status)) ⊎ (Often × ((ending.status ≡ 0) ⊎ (5 ≤ ending.status)))

-- `run`, `rehearse` and `generate` load a board once, or end before they do
pub record LoadsOnce (ending : Ended) : Type 0 where
  pub run : (given : List Argument) → EndsCalled command.Run given ending
      → EndsAfterLoads (ending.used.loads ≡ 1) ending
  pub rehearse : (given : List Argument) → EndsCalled command.Rehearse given ending
      → EndsAfterLoads (ending.used.loads ≡ 1) ending
  pub generate : (given : List Argument) → EndsCalled command.Generate given ending
      → EndsAfterLoads (ending.used.loads ≡ 1) ending

-- `cutat` loads a board twice, or once and memory was lacking, or ends before it does
pub record LoadsTwice (ending : Ended) : Type 0 where
  pub cutat : (given : List Argument) → EndsCalled command.Cutat given ending
      → EndsAfterLoads (((ending.used.loads ≡ 1) × (ending.status ≡ 6)) ⊎ (ending.used.loads ≡ 2)) ending
