-- What a board holds when a command has ended. Was something written since its last answer?
use Rattle.std.specs.Prelude.{◌≡◌, ◌≤◌, ◌⊎◌, [], None, Result, Ok, Err}
use Rattle.mb_model.specs.machine.Machine.{off}
use Rattle.mb_board.specs.Calls.{Seen, IsBetweenEvents, held_in}
use Rattle.mb_console.specs.declared.end.End.{End}
use Rattle.mb_console.specs.declared.end.End.TheVariants as end

-- A board was loaded, and holds what it held at its last answer, or at the load if nothing has been answered since. No
-- event is out, and if the command is done, none waits.
pub record HoldsAnswered (Done : Type 0) (seen : Seen) : Type 0 where
  pub loaded : 1 ≤ seen.ledger.loads
  pub between : IsBetweenEvents seen
  pub none_waits : Done → seen.ledger.waiting ≡ []

-- A board was loaded, and holds what it held at its last answer, but for its power, which was turned off since. All
-- events were answered.
pub record HoldsShut (seen : Seen) : Type 0 where
  pub loaded : 1 ≤ seen.ledger.loads
  pub shut : held_in seen ≡ record seen.ledger.standing { phase = off }
  pub none_out : seen.ledger.out ≡ None
  pub none_waits : seen.ledger.waiting ≡ []

-- what a board holds that was loaded: what it held at its last answer; or power was turned off since, and this holds
abbrev pub EndsServed : Type 0 → Type 0 → Seen → Type 0
EndsServed Done Shut seen = HoldsAnswered Done seen ⊎ (Shut × HoldsShut seen)

-- A command has left the board alone, which shows all that it showed before. Or the board was loaded.
abbrev pub EndsHolding : Type 0 → Type 0 → Seen → Seen → Type 0
EndsHolding Done Shut before after = (after ≡ before) ⊎ EndsServed Done Shut after

-- the command is done
abbrev pub IsDone : Result (Unit {0}) End → Type 0
IsDone result = result ≡ Ok tt

-- an allocation failed
abbrev pub IsOutOfMemory : Result (Unit {0}) End → Type 0
IsOutOfMemory result = result ≡ Err end.NoMemory
