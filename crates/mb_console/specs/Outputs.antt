-- The outputs of a command as the definitions of commands have them. Are they written one after another?
use Rattle.std.specs.Prelude.{◌≡◌, ◌⊎◌, List, [], ◌∷◌}
use Rattle.mb_model_commands.specs.Outside.{Outside, WritesFile, FailsToWrite}
use Rattle.mb_model_commands.specs.Commands.{Output as Written, Command, write}
use Rattle.mb_console.specs.declared.end.End.{End}
use Rattle.mb_console.specs.declared.end.End.TheVariants as end
use Rattle.mb_console.specs.declared.output.Output.{Output}

abbrev pub output_of : Output → Written
output_of output = record { role = output.role; name = output.name.now; bytes = output.bytes.now }

-- the outputs are written in their order, and then the command goes on
unfoldable pub writes : List Written → Command → Command
writes [] rest = rest
writes (output ∷ outputs) rest = write output (writes outputs rest)

-- the outputs have been written in their order
abbrev pub WritesAll : List Written → Outside → Outside → Type 0
WritesAll [] before after = after ≡ before
WritesAll (output ∷ outputs) before after =
    (mid : Outside) × WritesFile output.name output.bytes before mid × WritesAll outputs mid after

-- one of the outputs could not be written, after those before it
abbrev pub StopsWriting : List Written → Outside → End → Outside → Type 0
StopsWriting [] before why now = ⊥
StopsWriting (output ∷ outputs) before why now =
    ((why ≡ end.NotWritten output.role) × FailsToWrite output.name before now)
    ⊎ ((mid : Outside) × WritesFile output.name output.bytes before mid × StopsWriting outputs mid why now)
