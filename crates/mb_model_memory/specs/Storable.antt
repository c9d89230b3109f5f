-- Which states can be stored. Does whatever a device comes to fit the records in which it is kept?
use Rattle.std.specs.Prelude.{◌≡◌, ◌≤◌, length, All, Option, None, Some}
use Rattle.mb_model.specs.declared.limits.TheConstants.{SECRET_LIMIT, KEY_LIMIT, ENTRY_LIMIT}
use Rattle.mb_model.specs.declared.region.Region.{Region}
use Rattle.mb_model.specs.declared.state.State.{State}
use Rattle.mb_model.specs.records.KeyFormat.{key_seed_format}
use Rattle.mb_model.specs.records.LayerFormat.{layers_format}
use Rattle.mb_model.specs.records.EntryFormat.{signed_entry_format}
use Rattle.mb_model.specs.records.RootFormat.{region_key_format}
use Rattle.mb_model.specs.records.RegionFormat.{secret_format}
use Rattle.mb_model.specs.memories.PublicRecord.{codes_format}

-- each secret and each key has a spelling, and there are no more than a record holds
pub record IsStorableRegion (region : Region) : Type 0 where
  pub secrets : All secret_format.Allowed region.secrets
  pub few_secrets : length region.secrets ≤ SECRET_LIMIT
  pub keys : All region_key_format.Allowed region.keys
  pub few_keys : length region.keys ≤ KEY_LIMIT

-- each part of a state has a spelling
pub record IsStorableState (state : State) : Type 0 where
  pub serial : length state.serial ≡ 16
  pub device : key_seed_format.Allowed state.device
  pub layers : (layers_format 2).Allowed state.layers
  pub codes : codes_format.Allowed state.codes
  pub log : All signed_entry_format.Allowed state.log
  pub few : length state.log ≤ ENTRY_LIMIT
  pub two : IsStorableRegion state.two
  pub three : IsStorableRegion state.three

-- a state that can be stored; a dead device has none to store
abbrev pub Storable : Option State → Type 0
Storable None = Unit {0}
Storable (Some state) = IsStorableState state
