-- What is wrong with an image that no device can have. Is a fault found in each such image, and always the first one?
use Rattle.std.specs.Prelude.{◌≢◌, ℕ, List, length, Some}
use Rattle.mb_model.specs.declared.limits.TheConstants.{IMAGE_LENGTH}
use Rattle.mb_model.specs.declared.entry.Entry.{Entry}
use Rattle.mb_model.specs.declared.entry.SignedEntry.{SignedEntry}
use Rattle.mb_model.specs.declared.region.Region.{Region}
use Rattle.mb_model.specs.declared.state.Codes.{Codes}
use Rattle.mb_model.specs.declared.stored.Root.{Root}
use Rattle.mb_model.specs.memories.Memory.{IsImage, IsBlank, area_of_slot}
use Rattle.mb_model.specs.memories.StoredLog.{HasIndex}
use Rattle.mb_model.specs.memories.Flash.{HoldsPublic}
use Rattle.mb_model.specs.memories.Valid.{Valid}
use Rattle.mb_model.specs.memories.Meaning.{RootIn, HoldsRegion, Contents, FlashForm, HoldsContentsBy}
use Rattle.mb_model.specs.memories.Meaning.{state_of_contents}

pub data Fault : Type 0 where
  bad_length bad_root bad_public bad_region_two bad_region_three bad_state : Fault

-- the flash, by this form, holds some codes and entries for the root record
abbrev pub SomePublicBy : FlashForm → List ℕ → Root → Type 0
SomePublicBy Form flash root =
    (codes : Codes) × (signed : List SignedEntry) × (unsigned : List Entry)
    × Form flash root codes signed unsigned

abbrev pub SomePublic : List ℕ → Root → Type 0
SomePublic flash root = SomePublicBy HoldsPublic flash root

-- The area holds some region. The area has to be well formed even if its pending fate is to become empty, and the limit
-- of eight keys is asked after the fate: a fault is one of bytes as they lie, and validity is of what they mean.
abbrev pub SomeRegion : List ℕ → Type 0
SomeRegion area = (region : Region) × HoldsRegion area region

-- contents that a device can have: the device key has an index for what it has to sign, and the state is valid
abbrev pub AreSound : Contents → Type 0
AreSound contents = HasIndex contents.root contents.root.pending × Valid (Some (state_of_contents contents))

-- The memory has this fault by this form of the flash, and none that is named before it. A mismatch of counts is a
-- fault of the public record: so are two unsigned entries without an outgoing key. Pending work without an outgoing key
-- and without a used index is a fault of the state.
abbrev pub IsFaultyBy : FlashForm → List ℕ → List ℕ → Fault → Type 0
IsFaultyBy Form flash bbram bad_length = ⊥
IsFaultyBy Form flash bbram bad_root = (IsBlank bbram → ⊥) × ((root : Root) → RootIn bbram root → ⊥)
IsFaultyBy Form flash bbram bad_public = (root : Root) × RootIn bbram root × (SomePublicBy Form flash root → ⊥)
IsFaultyBy Form flash bbram bad_region_two =
    (root : Root) × RootIn bbram root × SomePublicBy Form flash root × (SomeRegion (area_of_slot bbram 2) → ⊥)
IsFaultyBy Form flash bbram bad_region_three =
    (root : Root) × RootIn bbram root × SomePublicBy Form flash root
    × SomeRegion (area_of_slot bbram 2) × (SomeRegion (area_of_slot bbram 3) → ⊥)
IsFaultyBy Form flash bbram bad_state =
    (contents : Contents) × HoldsContentsBy Form flash bbram contents × (AreSound contents → ⊥)

abbrev pub IsFaulty : List ℕ → List ℕ → Fault → Type 0
IsFaulty flash bbram fault = IsFaultyBy HoldsPublic flash bbram fault

-- the image has this fault by this form of the flash, and none that is named before it
abbrev pub HasFaultBy : FlashForm → List ℕ → Fault → Type 0
HasFaultBy Form image bad_length = length image ≢ IMAGE_LENGTH
HasFaultBy Form image fault =
    (flash : List ℕ) × (bbram : List ℕ) × IsImage image flash bbram × IsFaultyBy Form flash bbram fault

-- the image has this fault, and none that is named before it
abbrev pub HasFault : List ℕ → Fault → Type 0
HasFault image fault = HasFaultBy HoldsPublic image fault
