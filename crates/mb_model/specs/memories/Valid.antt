-- When a state is one that a device can have. Does a device hold what its log says, and nothing else?
use Rattle.std.specs.Prelude.{◌≡◌, ◌≢◌, ℕ, ◌≤◌, false, List, ◌∷◌, ◌++◌, length, map}
use Rattle.std.specs.Prelude.{All, AllPairs, Option, None, Some}
use Rattle.sha2.specs.Sha256.{sha256}
use Rattle.mb_model.specs.declared.limits.TheConstants.{KEY_LIMIT}
use Rattle.mb_model.specs.declared.layer.CodeName.{CodeName}
use Rattle.mb_model.specs.declared.layer.Layers.{Layers}
use Rattle.mb_model.specs.declared.entry.Entry.{Entry}
use Rattle.mb_model.specs.declared.entry.SignedEntry.{SignedEntry}
use Rattle.mb_model.specs.declared.region.Region.{Region}
use Rattle.mb_model.specs.declared.region.RegionKey.{RegionKey}
use Rattle.mb_model.specs.declared.state.Codes.{Codes}
use Rattle.mb_model.specs.declared.state.Figures.{Figures}
use Rattle.mb_model.specs.declared.state.State.{State}
use Rattle.mb_model.specs.signatures.Merkle.{leaf_number}
use Rattle.mb_model.specs.owners.Layers.{layer_of}
use Rattle.mb_model.specs.owners.Log.{entries_of, number_of, layers_of, device_of, serial_of, uses_of_device_key}
use Rattle.mb_model.specs.owners.Log.{figures_of, Ordered, Ruled}
use Rattle.mb_model.specs.owners.Lives.{MadeKey, alive_keys}
use Rattle.mb_model.specs.owners.Regions.{empty_region, RegionKeptRightly}
use Rattle.mb_model.specs.signatures.Signing.{public_of}
use Rattle.mb_model.specs.machine.SignedTexts.{entry_text, IsSignedBy}

-- An entry follows from a log with these figures. Whether the maker signed the birth, the device cannot know.
pub record Follows (before : Figures) (signed : SignedEntry) : Type 0 where
  pub ruled : Ruled before signed.entry
  pub in_order : before.length ≢ 0 → Ordered before signed.entry (leaf_number signed.signature)
  pub verifies : before.length ≢ 0 → IsSignedBy before.device (entry_text signed.entry) signed.signature

-- each entry of a log follows from those before it
abbrev pub EachFollows : List SignedEntry → Type 0
EachFollows log =
    (before : List SignedEntry) (signed : SignedEntry) (rest : List SignedEntry) → log ≡ before ++ signed ∷ rest
    → Follows (figures_of (entries_of before)) signed

-- code is there exactly if it has a name, and the name's hash is that of the code
abbrev pub IsNamed : Option CodeName → Option (List ℕ) → Type 0
IsNamed None None = Unit {0}
IsNamed (Some name) (Some code) = name.hash ≡ sha256 code
IsNamed None (Some code) = ⊥
IsNamed (Some name) None = ⊥

pub record AreNamed (layers : Layers) (codes : Codes) : Type 0 where
  pub one : IsNamed layers.one.code codes.one
  pub two : IsNamed layers.two.code codes.two
  pub three : IsNamed layers.three.code codes.three

-- what a log says of a key that stands in a region
abbrev pub as_made : RegionKey → MadeKey
as_made key = record { number = key.number; kind = key.kind; key = public_of key.seed }

-- A region that a layer can have with this log and these layers. The uses of a region's key may be any from 0 to 32: no
-- log shows how often it has signed.
pub record IsValidRegion (log : List Entry) (layers : Layers) (layer : ℕ) (region : Region) : Type 0 where
  pub empty : (layer_of layers layer).reliable ≡ false → region ≡ empty_region
  pub names : AllPairs (λ one other. one.name ≢ other.name) region.secrets
  pub past : All (λ secret. secret.born ≤ number_of log) region.secrets
  pub few : length region.keys ≤ KEY_LIMIT
  pub keys : map as_made region.keys ≡ alive_keys log layer
  pub kept : RegionKeptRightly log layer region

-- a state that a live device can have
pub record IsValidState (state : State) : Type 0 where
  pub log : EachFollows state.log
  pub layers : state.layers ≡ layers_of (entries_of state.log)
  pub codes : AreNamed state.layers state.codes
  pub serial : serial_of (entries_of state.log) ≡ Some state.serial
  pub device : device_of (entries_of state.log) ≡ Some (public_of state.device)
  pub uses : state.uses ≡ uses_of_device_key (entries_of state.log)
  pub two : IsValidRegion (entries_of state.log) state.layers 2 state.two
  pub three : IsValidRegion (entries_of state.log) state.layers 3 state.three

-- a state that a device can have; that of a dead device is none
abbrev pub Valid : Option State → Type 0
Valid None = Unit {0}
Valid (Some state) = IsValidState state
