-- What carries out a part of a command, before the line of its end is printed. Does each end have its line and its
-- status?
use Rattle.std.specs.Prelude.{◌≡◌, ℕ, List, [], ◌++◌, codes, Option, None, Some, Result, Ok, Err}
use Rattle.std.specs.Fmt.{decimal}
use Rattle.mb_model.specs.outside.Board.{Held, Used, not_used}
use Rattle.mb_model_commands.specs.declared.role.Role.{Role}
use Rattle.mb_model_commands.specs.declared.role.Place.{Place}
use Rattle.mb_model_commands.specs.Outside.{Outside, HoldsTooMuch, read_once, FailsToRead}
use Rattle.mb_model_commands.specs.Commands.{Input, Command, Past, Ended, SaysLine, HasRead, CommandEnds, at_first}
use Rattle.mb_model_commands.specs.Commands.{input_line}
use Rattle.mb_model_commands.specs.Commands.{role_word, place_words}
use Rattle.mb_console.specs.declared.end.End.{End}
use Rattle.mb_console.specs.declared.end.End.TheVariants as end

-- the number after a space, or nothing if there is none
abbrev pub after_space : Option ℕ → List ℕ
after_space None = []
after_space (Some n) = codes " " ++ decimal n

-- the exit status of an end
abbrev pub end_status : End → ℕ
end_status end.Words = 2
end_status (end.TooLong role) = 3
end_status (end.Faulty role place) = 3
end_status (end.NotRead role) = 4
end_status (end.NotWritten role) = 5
end_status end.NotPrinted = 5
end_status end.NoMemory = 6
end_status (end.Refused line) = 7
end_status (end.RefusedAtLength line) = 7

-- the line of an end
abbrev pub end_line : End → List ℕ
end_line end.Words = codes "words"
end_line (end.TooLong role) = input_line role (codes "too long")
end_line (end.Faulty role place) = input_line role (place_words place)
end_line (end.NotRead role) = codes "read failed " ++ role_word role
end_line (end.NotWritten role) = codes "write failed " ++ role_word role
end_line end.NotPrinted = codes "write failed output"
end_line end.NoMemory = codes "no memory"
end_line (end.Refused line) = line.bytes
end_line (end.RefusedAtLength line) = line

-- the command is refused with this line
pub record RefusesWith (line : List ℕ) (why : End) : Type 0 where
  pub line_is : end_line why ≡ line
  pub status_is : end_status why ≡ 7

-- an end by its parts
abbrev pub ended_at : Outside → Used → Held → Outside → ℕ → Ended
ended_at before used final after status =
    record { before = before; after = after; used = used; final = final; status = status }

-- A part is done, and `EndsSo` holds now with status 0; or it ends, and `EndsSo` holds once the line of its end is
-- printed, with the status of the end.
abbrev pub EndsOncePrinted : (Outside → ℕ → Type 0) → Result (Unit {0}) End → Outside → Type 0
EndsOncePrinted EndsSo (Ok u) now = EndsSo now 0
EndsOncePrinted EndsSo (Err why) now =
    (after : Outside) → SaysLine (end_line why) now after → EndsSo after (end_status why)

-- The rest of a command is carried out after its past, with the board used so and this on it in the end.
unfoldable pub CarriesOutRest :
    Command → Past → Used → Held → Outside → Result (Unit {0}) End → Outside → Type 0
CarriesOutRest command past used final before result now =
    EndsOncePrinted (λ after status. CommandEnds command past (ended_at before used final after status)) result now

-- A command that leaves the board alone is carried out from any past on.
abbrev pub CarriesOutAfter : Command → Outside → Result (Unit {0}) End → Outside → Type 0
CarriesOutAfter command before result now =
    (past : Past) (final : Held) → CarriesOutRest command past past.used final before result now

-- A command that leaves the board alone is carried out from its beginning on.
abbrev pub CarriesOut : Command → Outside → Result (Unit {0}) End → Outside → Type 0
CarriesOut command before result now = (final : Held) → CarriesOutRest command at_first not_used final before result now

-- Whatever carries out this rest from `mid` on, after the later past, carries out the whole command from `before` on.
pub record LeadsTo
    (used : Used) (final : Held) (whole : Command) (past : Past) (before : Outside)
    (rest : Command) (later : Past) (mid : Outside) : Type 0 where
  pub lead : (result : Result (Unit {0}) End) (now : Outside)
      → CarriesOutRest rest later used final mid result now → CarriesOutRest whole past used final before result now

-- ---- inputs

-- the input was read, and its bytes mean this value
pub record HasInput {A : Type 0} (input : Input A) (before now : Outside) (value : A) : Type 0 where
  pub bytes : List ℕ
  pub read : HasRead before input.name bytes
  pub is : input.Is bytes value
  pub now_is : now ≡ read_once before

-- the input was read and is at fault
pub record HasInputFault
    {A : Type 0} (input : Input A) (before now : Outside) (role : Role) (place : Place) : Type 0 where
  pub role_is : role ≡ input.role
  pub bytes : List ℕ
  pub read : HasRead before input.name bytes
  pub fault : input.FaultyAt bytes place
  pub now_is : now ≡ read_once before

-- the file of an input could not be had
abbrev pub ReadStops : Role → List ℕ → Outside → Outside → End → Type 0
ReadStops role name before now (end.TooLong other) =
    (other ≡ role) × HoldsTooMuch before name × (now ≡ read_once before)
ReadStops role name before now (end.NotRead other) = (other ≡ role) × FailsToRead name before now
ReadStops role name before now end.NoMemory = now ≡ read_once before
ReadStops role name before now _ = ⊥

-- a command stops at an input
abbrev pub StopsAt : {A : Type 0} → Input A → Outside → Outside → End → Type 0
StopsAt input before now (end.Faulty role place) = HasInputFault input before now role place
StopsAt input before now other = ReadStops input.role input.name before now other
