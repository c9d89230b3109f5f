-- Laws of migration. Does an image become one other image, which means the same and is left as it is from then on?
use Rattle.std.specs.Prelude.{◌≡◌, ℕ, List}
use Rattle.mb_format.specs.Format.{IsBytes}
use Rattle.mb_model.specs.memories.Faults.{Fault}
use Rattle.mb_model.specs.memories.Migration.{IsMigrated, CannotMigrate, MeansTheSame}

-- an image of bytes is migrated to one image only
abbrev pub MigratesToOne : Type 0
MigratesToOne = (image a b : List ℕ) → IsBytes image → IsMigrated image a → IsMigrated image b → a ≡ b

-- a migrated image means the state that the original image means, or meant in the earlier form
abbrev pub MigrationKeepsState : Type 0
MigrationKeepsState = (image out : List ℕ) → IsMigrated image out → MeansTheSame image out

-- a second migration changes nothing
abbrev pub MigratedStaysSo : Type 0
MigratedStaysSo =
    (image out again : List ℕ) → IsBytes out → IsMigrated image out → IsMigrated out again → again ≡ out

-- no image of bytes both can and cannot be migrated
abbrev pub MigratesOrCannot : Type 0
MigratesOrCannot =
    (image out : List ℕ) (fault : Fault) → IsBytes image → IsMigrated image out → CannotMigrate image fault → ⊥
