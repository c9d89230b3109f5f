-- What the command `migrate` does. Does OUT mean the state that IMAGE means, whichever form IMAGE has?
use Rattle.std.specs.Prelude.{◌≡◌, List, ℕ, ◌++◌, codes}
use Rattle.hex.specs.Hex.{encode_lower}
use Rattle.sha2.specs.Sha256.{sha256}
use Rattle.mb_model.specs.outside.Texts.{line_with_lf}
use Rattle.mb_model.specs.memories.Faults.{Fault}
use Rattle.mb_model.specs.memories.Migration.{IsMigrated, MeansTheSame, CannotMigrate}
use Rattle.mb_model_commands.specs.declared.role.Role.TheVariants as role
use Rattle.mb_model_commands.specs.Commands.{Input, Command, read, write, print}
use Rattle.mb_model_commands.specs.Inputs.{fault_place}

-- the names of the files
pub record MigrateNames : Type 0 where
  pub image : List ℕ
  pub out : List ℕ

-- An image in the current form or the earlier one, read as what a migration makes of it. If it cannot be migrated, it
-- is at fault as an image in the current form.
abbrev pub old_image_input : List ℕ → Input (List ℕ)
old_image_input name = record {
  role = role.Image;
  name = name;
  Is = λ bytes migrated. IsMigrated bytes migrated × MeansTheSame bytes migrated;
  FaultyAt = λ bytes place. (faulty : Fault) × (place ≡ fault_place faulty) × CannotMigrate bytes faulty;
}

-- the line with the hash of the image that is written
abbrev pub migrated_text : List ℕ → List ℕ
migrated_text image = line_with_lf (codes "migrated " ++ encode_lower (sha256 image))

-- an image in the current form or the earlier one is read, and the image of the current form is written
unfoldable pub migrate : MigrateNames → Command
migrate names =
    read (old_image_input names.image) (λ migrated.
    write (record { role = role.Out; name = names.out; bytes = migrated })
    (print (migrated_text migrated)))
