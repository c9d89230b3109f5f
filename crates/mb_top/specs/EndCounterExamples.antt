-- Ends that the program does not have; the checker refutes each line. Can the program end in any way?
use Rattle.std.specs.Prelude.{◌≢◌, ◌≤◌, ℕ, List, length}
use Rattle.mb_model.specs.outside.Board.{not_used}
use Rattle.mb_model_commands.specs.Commands.{Ended}
use Rattle.mb_top.specs.Top.{Ends}

-- One word, or none, is no command.
pub record EndCounterExamples (words : List (List ℕ)) (e : Ended) : Type 0 where
  -- the program ends with another status than 2
  pub status : length words ≤ 1 → e.status ≢ 2 → Ends words e → ⊥
  -- the program has loaded the board, or answered an event
  pub used : length words ≤ 1 → e.used ≢ not_used → Ends words e → ⊥
