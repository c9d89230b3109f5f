-- Laws of an image that is written from nothing. Does it mean the state that it was written for, and is nothing else in
-- it?
use Rattle.std.specs.Prelude.{◌≡◌, IfSome, Option}
use Rattle.mb_model.specs.declared.state.State.{State}
use Rattle.mb_model.specs.memories.Memory.{AreSized}
use Rattle.mb_model.specs.memories.WrittenFlash.{written_flash}
use Rattle.mb_model.specs.memories.Clean.{IsCleanFor}
use Rattle.mb_model.specs.memories.Valid.{Valid}
use Rattle.mb_model.specs.memories.Meaning.{IsWellFormed}
use Rattle.mb_model.specs.memories.WrittenImage.{written_bbram, written_image, FitsImage}

-- for a state that fits an image, both memories have their lengths
abbrev pub WrittenMemoriesAreSized : Type 0
WrittenMemoriesAreSized =
    (state : State) → FitsImage state → AreSized (written_flash state.codes state.log) (written_bbram state)

-- The battery-backed memory that is written for a state is clean for it, with a root that names area 0 of the flash.
abbrev pub WrittenMemoryIsClean : Type 0
WrittenMemoryIsClean =
    (state : State) → FitsImage state → (clean : IsCleanFor (written_bbram state) state) × (clean.area ≡ 0)

-- The image that is written is well formed, for a valid state that fits an image and for the dead device.
abbrev pub WrittenImagesAreWellFormed : Type 0
WrittenImagesAreWellFormed =
    (state : Option State) → IfSome state FitsImage → Valid state → IsWellFormed (written_image state) state
