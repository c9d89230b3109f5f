-- Which state a device's memory means. What does a memory mean as it is, whatever work was interrupted?
use Rattle.std.specs.Prelude.{◌≡◌, ℕ, List, [], ◌∷◌, ◌++◌, length, filter, Option, None, Some, if◌then◌else◌}
use Rattle.std.specs.List.{list_any}
use Rattle.mb_model.specs.declared.entry.Entry.{Entry}
use Rattle.mb_model.specs.declared.entry.SignedEntry.{SignedEntry}
use Rattle.mb_model.specs.declared.region.Region.{Region}
use Rattle.mb_model.specs.declared.region.RegionKey.{RegionKey}
use Rattle.mb_model.specs.declared.region.Secret.{Secret}
use Rattle.mb_model.specs.declared.state.Codes.{Codes}
use Rattle.mb_model.specs.declared.state.State.{State}
use Rattle.mb_model.specs.declared.stored.Fate.{Fate}
use Rattle.mb_model.specs.declared.stored.Fate.TheVariants.{Keep, Empty, DropConfiguration, AddKey}
use Rattle.mb_model.specs.declared.stored.Pending.{Pending}
use Rattle.mb_model.specs.declared.stored.Root.{Root}
use Rattle.mb_model.specs.owners.Log.{entries_of, layers_of}
use Rattle.mb_model.specs.owners.Regions.{is_epoch}
use Rattle.mb_model.specs.machine.LayerEvents.{has_number}
use Rattle.mb_model.specs.records.RootFormat.{root_format}
use Rattle.mb_model.specs.records.RegionFormat.{SpellsRegion}
use Rattle.mb_model.specs.memories.Memory.{AreSized, IsImage, IsBlank, life_byte, spare_bytes, area_of_slot}
use Rattle.mb_model.specs.memories.Memory.{HoldsInArea}
use Rattle.mb_model.specs.memories.Memory.{HoldsRecord}
use Rattle.mb_model.specs.memories.StoredLog.{HasIndex, log_completed_by}
use Rattle.mb_model.specs.memories.Flash.{HoldsPublic}
use Rattle.mb_model.specs.memories.Valid.{Valid}

-- ---- what a memory holds

-- The life byte says that the device is alive, the bytes between the selectors and the areas are zero, and this area
-- holds this root record.
pub record HasRoot (life : ℕ) (between area : List ℕ) (root : Root) : Type 0 where
  pub alive : life ≡ 0xA5
  pub blank : IsBlank between
  pub holds : HoldsRecord root_format area root

-- this battery-backed memory is that of a live device with this root record
abbrev pub RootIn : List ℕ → Root → Type 0
RootIn bbram root = HasRoot (life_byte bbram) (spare_bytes bbram) (area_of_slot bbram 1) root

-- an area holds the bytes of a region
pub record HoldsRegion (area : List ℕ) (region : Region) : Type 0 where
  pub bytes : List ℕ
  pub holds : HoldsInArea area bytes
  pub spelled : SpellsRegion bytes region

-- all that is stored in the memory of a live device
pub record Contents : Type 0 where
  pub root : Root
  pub codes : Codes
  pub signed : List SignedEntry
  pub unsigned : List Entry
  pub two : Region
  pub three : Region

-- A form of the flash: it says when a flash holds these codes, signed entries and unsigned entries for a root.
abbrev pub FlashForm : Type 1
FlashForm = List ℕ → Root → Codes → List SignedEntry → List Entry → Type 0

-- the memory holds these contents, and its flash has this form
pub record HoldsContentsBy (Form : FlashForm) (flash bbram : List ℕ) (contents : Contents) : Type 0 where
  pub root : RootIn bbram contents.root
  pub public : Form flash contents.root contents.codes contents.signed contents.unsigned
  pub two : HoldsRegion (area_of_slot bbram 2) contents.two
  pub three : HoldsRegion (area_of_slot bbram 3) contents.three

-- the memory holds these contents
abbrev pub HoldsContents : List ℕ → List ℕ → Contents → Type 0
HoldsContents flash bbram contents = HoldsContentsBy HoldsPublic flash bbram contents

-- ---- the state, with pending work completed

abbrev pub secrets_after_fate : Fate → List Secret → List Secret
secrets_after_fate Keep secrets = secrets
secrets_after_fate Empty secrets = []
secrets_after_fate DropConfiguration secrets = secrets
secrets_after_fate (AddKey key) secrets = secrets

abbrev pub keys_after_fate : Fate → List RegionKey → List RegionKey
keys_after_fate Keep keys = keys
keys_after_fate Empty keys = []
keys_after_fate DropConfiguration keys = filter (λ key. is_epoch key.kind) keys
keys_after_fate (AddKey key) keys = if list_any (has_number key.number) keys then keys else keys ++ key ∷ []

-- a region once its fate has been carried out
unfoldable pub region_after_fate : Fate → Region → Region
region_after_fate fate region =
    record { secrets = secrets_after_fate fate region.secrets; keys = keys_after_fate fate region.keys }

abbrev pub fate_of_two : Option Pending → Fate
fate_of_two None = Keep
fate_of_two (Some pending) = pending.two

abbrev pub fate_of_three : Option Pending → Fate
fate_of_three None = Keep
fate_of_three (Some pending) = pending.three

-- the state that contents mean
unfoldable pub state_of_contents : Contents → State
state_of_contents contents =
    let root = contents.root in
    let whole = log_completed_by root contents.signed contents.unsigned in
    record {
      serial = root.serial;
      layers = layers_of (entries_of whole);
      codes = contents.codes;
      log = whole;
      device = root.device;
      uses = root.uses;
      two = region_after_fate (fate_of_two root.pending) contents.two;
      three = region_after_fate (fate_of_three root.pending) contents.three;
    }

-- These bytes mean this state, with a flash in this form. If the battery-backed memory is all zero, as a tamper event
-- leaves it, they mean none, whatever the flash holds.
pub data HasMeaningBy (Form : FlashForm) (flash bbram : List ℕ) (state : Option State) : Type 0 where
  is_dead : IsBlank bbram → state ≡ None → HasMeaningBy Form flash bbram state
  is_live : (contents : Contents) → HoldsContentsBy Form flash bbram contents →
      HasIndex contents.root contents.root.pending → state ≡ Some (state_of_contents contents) →
      HasMeaningBy Form flash bbram state

abbrev pub HasMeaning : List ℕ → List ℕ → Option State → Type 0
HasMeaning flash bbram state = HasMeaningBy HoldsPublic flash bbram state

pub record StandsForBy (Form : FlashForm) (flash bbram : List ℕ) (state : Option State) : Type 0 where
  pub sized : AreSized flash bbram
  pub meaning : HasMeaningBy Form flash bbram state

-- The memory has the right lengths and means this state.
abbrev pub StandsFor : List ℕ → List ℕ → Option State → Type 0
StandsFor flash bbram state = StandsForBy HoldsPublic flash bbram state

-- ---- whole images

pub record IsWellFormedBy (Form : FlashForm) (image : List ℕ) (state : Option State) : Type 0 where
  pub flash : List ℕ
  pub bbram : List ℕ
  pub image_is : IsImage image flash bbram
  pub stands : StandsForBy Form flash bbram state
  pub valid : Valid state

-- an image that a device can have, and the state that it means
abbrev pub IsWellFormed : List ℕ → Option State → Type 0
IsWellFormed image state = IsWellFormedBy HoldsPublic image state

-- how many entries a device's log has; a dead device has no log
abbrev pub log_length : Option State → ℕ
log_length None = 0
log_length (Some state) = length state.log
