-- The image of a device that is written from scratch, with no pending work. Which bytes does the factory write?
use Rattle.std.specs.Prelude.{◌≡◌, ℕ, ◌-◌, List, [], ◌∷◌, ◌++◌, length, Option, None, Some}
use Rattle.std.specs.Int.{w16, to_be_bytes}
use Rattle.mb_model.specs.declared.limits.TheConstants.{AREA_LENGTH, BBRAM_LENGTH, FLASH_LENGTH, RECORD_LIMIT}
use Rattle.mb_model.specs.declared.state.State.{State}
use Rattle.mb_model.specs.outside.Board.{erased_bytes, zeros}
use Rattle.mb_model.specs.records.RootFormat.{root_format}
use Rattle.mb_model.specs.records.RegionFormat.{CanBeWritten, written_region}
use Rattle.mb_model.specs.memories.WrittenFlash.{CodesFitSlots, LogFitsSectors, written_flash}
use Rattle.mb_model.specs.memories.Clean.{root_of}

-- an area with a record: its length, its bytes, and zeros
unfoldable pub area_with : List ℕ → List ℕ
area_with bytes = to_be_bytes w16 (length bytes) ++ (bytes ++ zeros (RECORD_LIMIT - length bytes))

-- The battery-backed memory: the root and the regions in the first of their two areas, and all else zero.
unfoldable pub written_bbram : State → List ℕ
written_bbram state =
    (0xA5 ∷ 0 ∷ 0 ∷ 0 ∷ [])  -- the life byte, and three selectors
    ++ (zeros 4092
    ++ (area_with (root_format.spelling (root_of state 0)) ++ (zeros AREA_LENGTH
    ++ (area_with (written_region state.two) ++ (zeros AREA_LENGTH
    ++ (area_with (written_region state.three) ++ zeros AREA_LENGTH))))))

-- The image: for a dead device the flash is erased and the battery-backed memory zero.
unfoldable pub written_image : Option State → List ℕ
written_image None = erased_bytes FLASH_LENGTH ++ zeros BBRAM_LENGTH
written_image (Some state) = written_flash state.codes state.log ++ written_bbram state

-- what can be written: each part of the state fits its place, and its records have spellings
pub record FitsImage (state : State) : Type 0 where
  pub codes : CodesFitSlots state.codes
  pub log : LogFitsSectors state.log
  pub root : root_format.Allowed (root_of state 0)
  pub two : CanBeWritten state.two
  pub three : CanBeWritten state.three

-- An image was written from scratch, for a state that fits it.
pub record IsWrittenFor (state : State) (image : List ℕ) : Type 0 where
  pub fits : FitsImage state
  pub written : image ≡ written_image (Some state)
