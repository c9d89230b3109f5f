-- What is left of a region after a change, and what may be in it. Has a secret been kept over a change that its layer
-- never agreed to?
use Rattle.std.specs.Prelude.{◌≡◌, ℕ, ◌==◌, ◌<◌, ◌≤◌, nat_lt, Bool, true, false, List, [], ◌∷◌, ◌++◌, All, filter}
use Rattle.std.specs.Prelude.{Option, None, Some, if◌then◌else◌}
use Rattle.mb_model.specs.declared.key.PublicKey.{PublicKey}
use Rattle.mb_model.specs.declared.layer.Layers.{Layers}
use Rattle.mb_model.specs.declared.layer.Pair.{Pair}
use Rattle.mb_model.specs.declared.order.KeyKind.{KeyKind}
use Rattle.mb_model.specs.declared.order.KeyKind.TheVariants as kinds
use Rattle.mb_model.specs.declared.order.ChangeKind.{ChangeKind}
use Rattle.mb_model.specs.declared.entry.Entry.{Entry}
use Rattle.mb_model.specs.declared.entry.Entry.TheVariants.{Change, NewKey}
use Rattle.mb_model.specs.declared.region.Region.{Region}
use Rattle.mb_model.specs.declared.region.RegionKey.{RegionKey}
use Rattle.mb_model.specs.declared.state.State.{State}
use Rattle.mb_model.specs.owners.Rules.{admits, Admits}
use Rattle.mb_model.specs.owners.Log.{entries_of, layers_of}

-- a region with nothing in it
abbrev pub empty_region : Region
empty_region = record { secrets = []; keys = [] }

abbrev pub is_epoch : KeyKind → Bool
is_epoch kinds.Epoch = true
is_epoch kinds.Configuration = false

-- the region without its configuration keys
abbrev pub without_configuration_keys : Region → Region
without_configuration_keys region = record region { keys = filter (λ key. is_epoch key.kind) region.keys }

-- The region of a layer after a change of the layer `changed`; `layers` are those before the change. A change above
-- leaves the region as it is; one that its layer admits takes its configuration keys; any other empties it.
abbrev pub region_after : Layers → ChangeKind → ℕ → Pair → ℕ → Region → Region
region_after layers kind changed cosigned layer region =
    if nat_lt layer changed then region
    else if admits layers kind changed cosigned layer then without_configuration_keys region
    else empty_region

-- the region with a new key after its others
abbrev pub with_key : RegionKey → Region → Region
with_key key region = record region { keys = region.keys ++ key ∷ [] }

-- The layer admitted each change of the log that has a number above `since` and is of the layer or beneath it. This
-- looks back over the log, at the layers as they stood before each such change.
abbrev pub AdmittedSince : List Entry → ℕ → ℕ → Type 0
AdmittedSince log since layer =
    (before later : List Entry) (version position number : ℕ) (kind : ChangeKind) (changed : ℕ)
    → (cosigned : Pair) (layers : Layers) (kept : Pair) (next : Option PublicKey)
    → log ≡ before ++ Change version position number kind changed cosigned layers kept next ∷ later
    → since < number → changed ≤ layer → Admits (layers_of before) kind changed cosigned layer

-- The key with this number is born in the log, in the region of its layer, and the layer admitted each change of itself
-- or beneath it since then.
pub record KeyAdmitted (log : List Entry) (layer key_number : ℕ) : Type 0 where
  pub before : List Entry
  pub position : ℕ
  pub number : ℕ
  pub kind : KeyKind
  pub key : PublicKey
  pub later : List Entry
  pub split : log ≡ before ++ NewKey position number key_number layer kind key ∷ later
  pub admitted : AdmittedSince log number layer

-- since each secret and each key came into a layer's region, the layer has admitted each change of itself or beneath it
pub record RegionKeptRightly (log : List Entry) (layer : ℕ) (region : Region) : Type 0 where
  pub secrets : All (λ secret. AdmittedSince log secret.born layer) region.secrets
  pub keys : All (λ key. KeyAdmitted log layer key.number) region.keys

pub record BothKeptRightly (state : State) : Type 0 where
  pub two : RegionKeptRightly (entries_of state.log) 2 state.two
  pub three : RegionKeptRightly (entries_of state.log) 3 state.three

-- every secret and key of a device was kept rightly; a dead device has none
abbrev pub KeptRightly : Option State → Type 0
KeptRightly None = Unit {0}
KeptRightly (Some state) = BothKeptRightly state

-- the region of layer 2 or 3; no other layer has one
abbrev pub region_of : State → ℕ → Region
region_of state layer = if layer == 2 then state.two else if layer == 3 then state.three else empty_region

-- the state with this region of layer 2 or 3
abbrev pub with_region : State → ℕ → Region → State
with_region state layer region = record state {
  two = if layer == 2 then region else state.two;
  three = if layer == 3 then region else state.three;
}
