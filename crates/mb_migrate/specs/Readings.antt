-- What an image is found to be by a form of the flash, and by either form. Does the current form come first?
use Rattle.std.specs.Prelude.{ℕ, List, Option, IfSome}
use Rattle.mb_model.specs.declared.state.State.{State}
use Rattle.mb_model.specs.memories.Meaning.{FlashForm, IsWellFormedBy, IsWellFormed}
use Rattle.mb_model.specs.memories.Faults.{HasFaultBy}
use Rattle.mb_model.specs.memories.OldFlash.{WasWellFormed}
use Rattle.mb_image.specs.declared.image.ImageEnd.{ImageEnd}
use Rattle.mb_image.specs.Ends.{fault_of}
use Rattle.mb_migrate.specs.declared.migration.Reading.{Reading}
use Rattle.mb_migrate.specs.declared.migration.Reading.TheVariants as reading

-- the image has the fault that this end names, and means no state
pub record IsFoundFaulty (Form : FlashForm) (image : List ℕ) (ended : ImageEnd) : Type 0 where
  pub told : IfSome (fault_of ended) (HasFaultBy Form image)
  pub none : (state : Option State) → IsWellFormedBy Form image state → ⊥

-- what was read of an image by a form of the flash is true of it
abbrev pub IsReadBy : FlashForm → List ℕ → Reading → Type 0
IsReadBy Form image (reading.State state) = IsWellFormedBy Form image state
IsReadBy Form image (reading.Fault ended) = IsFoundFaulty Form image ended

-- the image means this state by the current form, or, if it means none by that form, by the earlier form
pub data StandsByEither (image : List ℕ) (state : Option State) : Type 0 where
  by_present : IsWellFormed image state → StandsByEither image state
  by_before : ((any : Option State) → IsWellFormed image any → ⊥) → WasWellFormed image state →
      StandsByEither image state
