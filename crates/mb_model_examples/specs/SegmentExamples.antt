-- What small flashes in segments hold, and what is written of regions; the checker computes each line. Do the
-- definitions hold of anything?
use Rattle.std.specs.Prelude.{◌≡◌, ℕ, List, [], ◌∷◌, ◌++◌, take, slice_index, replicate, codes, None, Some}
use Rattle.mb_model.specs.declared.entry.Entry.{Entry}
use Rattle.mb_model.specs.declared.entry.SignedEntry.{SignedEntry}
use Rattle.mb_model.specs.declared.region.Secret.{Secret}
use Rattle.mb_model.specs.declared.stored.Slot.{Slot}
use Rattle.mb_model.specs.outside.Pieces.{part}
use Rattle.mb_model.specs.owners.Regions.{empty_region}
use Rattle.mb_model.specs.records.RegionFormat.{written_region}
use Rattle.mb_model.specs.memories.WrittenFlash.{written_flash}
use Rattle.mb_model.specs.memories.Flash.{HoldsHeader, HoldsCode, HoldsEntry, AreBytesOf}
use Rattle.mb_model_examples.specs.RecordValues.{bytes_of, birth, birth_digits, succession, succession_digits}
use Rattle.mb_model_examples.specs.HeaderExamples.{header_of_one, log_bytes}

-- a flash of nothing but a header: layer 1 has nine bytes of code in slot 1, and one entry is signed
abbrev pub only_header : List ℕ
only_header = bytes_of (codes "4d424831010000000900000000000000000000000100")

-- a flash that ends with these bytes of code, in slot 1 of layer 1
abbrev pub only_code : List ℕ → List ℕ
only_code code = replicate 8192 0xFF ++ code

abbrev pub nine_bytes : List ℕ
nine_bytes = codes "miniboot!"

abbrev pub slot_one : ℕ → Slot
slot_one length = record { which = 1; length = length }

-- an entry signed by this byte, 2,348 times
abbrev pub signed_by_byte : ℕ → Entry → SignedEntry
signed_by_byte byte entry = record { entry = entry; signature = replicate 2348 byte }

pub record SegmentExamples : Type 0 where
  pub header : HoldsHeader only_header 0 (header_of_one 1 None None)
  pub code : HoldsCode (only_code nine_bytes) 1 (slot_one 9) (Some nine_bytes)
  -- the code may be followed by anything in its slot, and the signature by anything in its sector
  pub more_code : HoldsCode (only_code (nine_bytes ++ 7 ∷ [])) 1 (slot_one 9) (Some nine_bytes)
  pub entry : HoldsEntry (log_bytes ++ 7 ∷ []) (signed_by_byte 0x61 birth)
  pub texts : AreBytesOf (Some (bytes_of birth_digits)) (Some (bytes_of succession_digits)) (birth ∷ succession ∷ [])

-- the flash of a device with nine bytes of code in layer 1, and with its birth
abbrev pub small_flash : List ℕ
small_flash =
    written_flash (record { one = Some nine_bytes; two = None; three = None }) (signed_by_byte 0x61 birth ∷ [])

-- what stands in `small_flash`, at the offsets of header, code and log
pub record WrittenExamples : Type 0 where
  pub header : take 24 small_flash ≡ only_header ++ 0xFF ∷ 0xFF ∷ []
  pub code : part 8192 11 small_flash ≡ nine_bytes ++ 0xFF ∷ 0xFF ∷ []
  pub log : part 262144 2521 small_flash ≡ log_bytes
  -- a region of one secret is written in version 2, and an empty one has no bytes
  pub one_secret : (secret : Secret) → slice_index (written_region (record { secrets = secret ∷ []; keys = [] })) 0 ≡ 2
  pub empty : written_region empty_region ≡ []
