-- The board of a command that serves a device. How does such a command find it, and what has it done by it in the end?
use Rattle.std.specs.Prelude.{◌≡◌, false, Result, None}
use Rattle.mb_model.specs.outside.Board.{not_used, use_of}
use Rattle.mb_model_commands.specs.Outside.{Outside}
use Rattle.mb_model_commands.specs.Commands.{Command, at_first}
use Rattle.mb_board.specs.Calls.{Seen}
use Rattle.mb_console.specs.declared.end.End.{End}
use Rattle.mb_console.specs.Ending.{CarriesOutRest}

-- a board without power, that was never loaded
pub record IsFresh (seen : Seen) : Type 0 where
  pub off : seen.power ≡ false
  pub none_out : seen.ledger.out ≡ None
  pub never_used : use_of seen.ledger ≡ not_used

-- A command is carried out from its beginning on, by loads and answers of the board that shows this in the end.
abbrev pub CarriesOutOn : Command → Seen → Outside → Result (Unit {0}) End → Outside → Type 0
CarriesOutOn command seen before result now =
    CarriesOutRest command at_first (use_of seen.ledger) seen.ledger.standing before result now
