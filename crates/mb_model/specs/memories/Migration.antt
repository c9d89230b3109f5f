-- What a migration makes of an image, whose flash may be in segments or in the earlier form. Is anything lost?
use Rattle.std.specs.Prelude.{◌≡◌, ◌⊎◌, ℕ, List, Option}
use Rattle.mb_model.specs.declared.state.State.{State}
use Rattle.mb_model.specs.memories.Meaning.{IsWellFormed}
use Rattle.mb_model.specs.memories.Faults.{Fault, HasFault}
use Rattle.mb_model.specs.memories.OldFlash.{WasWellFormed}
use Rattle.mb_model.specs.memories.WrittenImage.{written_image}

-- `out` is the image that is written for the state that `image` means in the current form, or, if `image` is well
-- formed in that form for no state, for the one that it meant in the earlier form. It is written from scratch, as the
-- factory writes one. So nothing of the old image is left beside what its state says, and a migrated image migrates to
-- itself. Bytes of the flash beside the records are lost, and count for nothing.
pub data IsMigrated (image out : List ℕ) : Type 0 where
  from_present : (state : Option State) → IsWellFormed image state → out ≡ written_image state → IsMigrated image out
  from_before : ((any : Option State) → IsWellFormed image any → ⊥) → (state : Option State) →
      WasWellFormed image state → out ≡ written_image state → IsMigrated image out

-- If an image is well formed in neither form, its fault is the one that it has in the current form.
pub record CannotMigrate (image : List ℕ) (fault : Fault) : Type 0 where
  pub told : HasFault image fault
  pub not_before : (state : Option State) → WasWellFormed image state → ⊥

-- The new image means the state that the old image means in the current form or in the earlier one.
pub record MeansTheSame (image out : List ℕ) : Type 0 where
  pub state : Option State
  pub was : IsWellFormed image state ⊎ WasWellFormed image state
  pub now : IsWellFormed out state
