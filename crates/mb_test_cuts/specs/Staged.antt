-- What is known of a memory before a call that a test makes?
use Rattle.std.specs.Prelude.{◌≡◌, ℕ, List, Bool, false, Some}
use Rattle.mb_model.specs.declared.state.State.{State}
use Rattle.mb_model.specs.memories.Memory.{area_of_slot}
use Rattle.mb_model.specs.memories.Meaning.{IsWellFormed}
use Rattle.mb_model.specs.outside.Board.{Memory, IsLoaded, image_of}
use Rattle.mb_region.specs.Regions.{HoldsSomeRegion}
use Rattle.mb_boot.specs.Booting.{StandsForValid}

-- an image means a live state that a device can have
pub record IsLiveImage (image : List ℕ) : Type 0 where
  pub state : State
  pub well_formed : IsWellFormed image (Some state)

-- a board holds an image, with power off
pub record HoldsImage (image : List ℕ) (power : Bool) (memory : Memory) : Type 0 where
  pub off : power ≡ false
  pub loaded : IsLoaded memory
  pub same : image_of memory ≡ image

-- a memory has what the calls require
pub record IsReadyForCalls (memory : Memory) : Type 0 where
  pub loaded : IsLoaded memory
  pub stands : StandsForValid memory
  pub two : HoldsSomeRegion (area_of_slot memory.bbram 2)
  pub three : HoldsSomeRegion (area_of_slot memory.bbram 3)
