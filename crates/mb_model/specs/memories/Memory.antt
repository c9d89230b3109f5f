-- Where things stand in a device's memory. Which bytes count, and which are arbitrary?
use Rattle.std.specs.Prelude.{◌≡◌, ℕ, ◌%◌, ◌≤◌, ◌==◌, List, ◌++◌, length, slice_index, All, if◌then◌else◌}
use Rattle.std.specs.Int.{w16, to_be_bytes}
use Rattle.mb_format.specs.Format.{Format, Spells}
use Rattle.mb_model.specs.declared.limits.TheConstants.{AREA_LENGTH, FLASH_LENGTH, BBRAM_LENGTH, RECORD_LIMIT}
use Rattle.mb_model.specs.outside.Pieces.{part}

-- the two memories of a device, flash and battery-backed memory, have these lengths
pub record AreSized (flash_bytes bbram_bytes : List ℕ) : Type 0 where
  pub flash : length flash_bytes ≡ FLASH_LENGTH
  pub bbram : length bbram_bytes ≡ BBRAM_LENGTH

-- An image: the flash, and then the battery-backed memory.
abbrev pub IsImage : List ℕ → List ℕ → List ℕ → Type 0
IsImage image flash bbram = (image ≡ flash ++ bbram) × AreSized flash bbram

-- all bytes are zero
abbrev pub IsBlank : List ℕ → Type 0
IsBlank bytes = All (λ byte. byte ≡ 0) bytes

-- ---- the table of the battery-backed memory

-- a slot, which holds one record: the offsets of its selector, a byte, and of its first and its second area
pub record SlotOffsets : Type 0 where
  pub selector : ℕ
  pub first : ℕ
  pub second : ℕ

-- slot 1 holds the root record, and slots 2 and 3 hold the records of regions 2 and 3
abbrev pub slots : ℕ → SlotOffsets
slots slot =
    if slot == 1 then record { selector = 1; first = 4096; second = 8192 }
    else if slot == 2 then record { selector = 2; first = 12288; second = 16384 }
    else record { selector = 3; first = 20480; second = 24576 }

-- the byte at offset 0, which says whether the device is alive
abbrev pub life_byte : List ℕ → ℕ
life_byte bbram = slice_index bbram 0

-- the bytes between the selectors and the first area
unfoldable pub spare_bytes : List ℕ → List ℕ
spare_bytes bbram = part 4 4092 bbram

-- ---- the areas of a slot

abbrev pub selector_of : List ℕ → ℕ → ℕ
selector_of bbram slot = slice_index bbram (slots slot).selector

unfoldable pub first_area : List ℕ → ℕ → List ℕ
first_area bbram slot = part (slots slot).first AREA_LENGTH bbram

unfoldable pub second_area : List ℕ → ℕ → List ℕ
second_area bbram slot = part (slots slot).second AREA_LENGTH bbram

-- the current area of a slot, by the parity of its selector; the other one is inactive
unfoldable pub area_of_slot : List ℕ → ℕ → List ℕ
area_of_slot bbram slot = if selector_of bbram slot % 2 == 0 then first_area bbram slot else second_area bbram slot

unfoldable pub inactive_area_of_slot : List ℕ → ℕ → List ℕ
inactive_area_of_slot bbram slot =
    if selector_of bbram slot % 2 == 0 then second_area bbram slot else first_area bbram slot

-- an area holds these bytes: their length, the bytes, and zeros
pub record HoldsInArea (area bytes : List ℕ) : Type 0 where
  pub rest : List ℕ
  pub short : length bytes ≤ RECORD_LIMIT
  pub whole : area ≡ to_be_bytes w16 (length bytes) ++ bytes ++ rest
  pub blank : IsBlank rest

-- an area holds a record of this value
pub record HoldsRecord {A : Type 0} (format : Format A) (area : List ℕ) (value : A) : Type 0 where
  pub bytes : List ℕ
  pub holds : HoldsInArea area bytes
  pub spelled : Spells format bytes value
