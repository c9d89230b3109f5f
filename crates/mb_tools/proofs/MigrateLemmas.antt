-- What carries out `migrate`.
use Rattle.std.proofs.Common.{◌≡◌, ℕ, List, Option, None, Some, refl, sym, subst}
use Rattle.std.specs.Prelude.{IfSome}
use Rattle.mb_model.specs.memories.Faults.{Fault}
use Rattle.mb_model.specs.memories.Migration.{CannotMigrate}
use Rattle.mb_model_commands.specs.Outside.{Outside, read_once}
use Rattle.mb_model_commands.specs.Commands.{HasRead}
use Rattle.mb_model_commands.specs.MigrateCommand.{old_image_input}
use Rattle.mb_model_commands.specs.MigrateCommand.{migrate}
use Rattle.mb_console.specs.declared.end.End.{End}
use Rattle.mb_console.specs.Ending.{StopsAt}
use Rattle.mb_tools.specs.Images.{TellsFault}

-- an image that can't be migrated was read, or there was no memory
pub old_image_stops : (name bytes : List ℕ) (before now : Outside) (found : Option Fault) (why : End) → HasRead before name bytes → now ≡ read_once before
    → IfSome found (CannotMigrate bytes) → TellsFault found why → StopsAt (old_image_input name) before now why
old_image_stops name bytes before now (Some faulty) why read now_is has tells =
    subst (λ w. StopsAt (old_image_input name) before now w) (sym tells)
    (record { role_is = refl; bytes = bytes; read = read; fault = (faulty, refl, has); now_is = now_is })
old_image_stops name bytes before now None why read now_is none tells =
    subst (λ w. StopsAt (old_image_input name) before now w) (sym tells) now_is
