-- Laws of layers, their rules and logs, each proved on a public function. Do the rules fit together?
use Rattle.std.specs.Prelude.{◌≡◌, ◌≤◌, ℕ, List, [], ◌∷◌, ◌++◌, length, Option, Some, IsTrue, All, None, false}
use Rattle.mb_model.specs.declared.key.PublicKey.{PublicKey}
use Rattle.mb_model.specs.declared.layer.Layer.{Layer}
use Rattle.mb_model.specs.declared.layer.Layers.{Layers}
use Rattle.mb_model.specs.declared.layer.Pair.{Pair}
use Rattle.mb_model.specs.declared.order.Act.{Act}
use Rattle.mb_model.specs.declared.order.ChangeKind.{ChangeKind}
use Rattle.mb_model.specs.declared.region.Region.{Region}
use Rattle.mb_model.specs.declared.region.RegionKey.{RegionKey}
use Rattle.mb_model.specs.declared.order.KeyKind.{KeyKind}
use Rattle.mb_model.specs.owners.Layers.{layer_of, is_upper, IsLayers, Runnable}
use Rattle.mb_model.specs.owners.Rules.{kind_of, change_of, Condition, CanPlace, layer_from_order, after}
use Rattle.mb_model.specs.owners.Log.{is_change, layers_in, device_in, number_of, layers_of, device_of}
use Rattle.mb_model.specs.owners.Log.{uses_of_device_key}
use Rattle.mb_model.specs.owners.Log.{RuledLog}
use Rattle.mb_model.specs.owners.Regions.{empty_region, region_after, with_key, AdmittedSince, RegionKeptRightly}
use Rattle.mb_model.specs.declared.entry.Entry.{Entry}
use Rattle.mb_model.specs.declared.entry.Entry.TheVariants.{Change, NewKey}

-- each layer from 1 up to one that may run is reliable
abbrev pub RunnableLayersAreReliable : Type 0
RunnableLayersAreReliable =
    (layers : Layers) (n : ℕ) → n ≤ 3 → Runnable layers n → (m : ℕ) → 1 ≤ m → m ≤ n
    → IsTrue (layer_of layers m).reliable

-- if layers 1 to n are all reliable, layer n may run
abbrev pub ReliableLayersRun : Type 0
ReliableLayersRun =
    (layers : Layers) (n : ℕ) → 1 ≤ n → n ≤ 3 → ((m : ℕ) → 1 ≤ m → m ≤ n → IsTrue (layer_of layers m).reliable)
    → Runnable layers n

-- a change of an order's kind can put in place what the order does
abbrev pub OrdersPlaceWhatEntriesShow : Type 0
OrdersPlaceWhatEntriesShow =
    (old : Layer) (order : Act) (kind : ChangeKind) → change_of (kind_of order) ≡ Some kind
    → CanPlace kind old (layer_from_order old order)

-- some order of a change's kind puts in place what the change can, except for the name of the code
abbrev pub EntriesShowWhatOrdersPlace : Type 0
EntriesShowWhatOrdersPlace =
    (kind : ChangeKind) (old new : Layer) → CanPlace kind old new
    → (order : Act) × (change_of (kind_of order) ≡ Some kind)
    × (record (layer_from_order old order) { code = new.code } ≡ new)

-- an allowed change leaves layers that a device can hold
abbrev pub LayersStayLayers : Type 0
LayersStayLayers =
    (layers : Layers) (kind : ChangeKind) (k : ℕ) (cosigned : Pair) (new : Layer) → IsLayers layers
    → Condition layers (Some kind) k → CanPlace kind (layer_of layers k) new
    → IsLayers (after layers kind k cosigned new)

-- the region of an unreliable layer is empty after a change, if that was so before
abbrev pub UnreliableRegionsAreEmpty : Type 0
UnreliableRegionsAreEmpty =
    (layers : Layers) (kind : ChangeKind) (k : ℕ) (cosigned : Pair) (new : Layer) (L : ℕ) (region : Region)
    → IsTrue (is_upper L) → CanPlace kind (layer_of layers k) new
    → ((layer_of layers L).reliable ≡ false → region ≡ empty_region)
    → (layer_of (after layers kind k cosigned new) L).reliable ≡ false
    → region_after layers kind k cosigned L region ≡ empty_region

-- the layers are those of an entry that names some, if none after it does
abbrev pub LastLayersCount : Type 0
LastLayersCount =
    (before : List Entry) (entry : Entry) (rest : List Entry) (layers : Layers) → layers_in entry ≡ Some layers
    → All (λ e. layers_in e ≡ None) rest → layers_of (before ++ entry ∷ rest) ≡ layers

-- the device key is that of an entry that names one, if none after it does
abbrev pub LastDeviceCounts : Type 0
LastDeviceCounts =
    (before : List Entry) (entry : Entry) (rest : List Entry) (key : PublicKey) → device_in entry ≡ Some key
    → All (λ e. device_in e ≡ None) rest → device_of (before ++ entry ∷ rest) ≡ Some key

-- the device key has signed the entries after the last one that names a device key
abbrev pub UsedAfterTheLast : Type 0
UsedAfterTheLast =
    (before : List Entry) (entry : Entry) (rest : List Entry) (key : PublicKey) → device_in entry ≡ Some key
    → All (λ e. device_in e ≡ None) rest → uses_of_device_key (before ++ entry ∷ rest) ≡ length rest

-- what a change leaves of a region was kept rightly, if the region was before
abbrev pub ChangesKeepRightly : Type 0
ChangesKeepRightly =
    (log : List Entry) (version position number : ℕ) (kind : ChangeKind) (k : ℕ) (cosigned : Pair)
    → (layers : Layers) (kept : Pair) (next : Option PublicKey) (L : ℕ) (region : Region)
    → RegionKeptRightly log L region
    → RegionKeptRightly (log ++ Change version position number kind k cosigned layers kept next ∷ []) L
    (region_after (layers_of log) kind k cosigned L region)

-- a region that was kept rightly is so with a new key
abbrev pub NewKeysKeepRightly : Type 0
NewKeysKeepRightly =
    (log : List Entry) (position number L : ℕ) (kind : KeyKind) (public : PublicKey) (key : RegionKey) (region : Region)
    → RuledLog log → number ≡ number_of log → RegionKeptRightly log L region
    → RegionKeptRightly (log ++ NewKey position number key.number L kind public ∷ []) L (with_key key region)

-- a region that was kept rightly is so over an entry that is no change
abbrev pub OtherEntriesKeepRightly : Type 0
OtherEntriesKeepRightly =
    (log : List Entry) (entry : Entry) (L : ℕ) (region : Region) → is_change entry ≡ false
    → RegionKeptRightly log L region
    → RegionKeptRightly (log ++ entry ∷ []) L region

-- what comes into a region with the present number was admitted at each change since
abbrev pub NowIsAdmitted : Type 0
NowIsAdmitted =
    (log : List Entry) (L : ℕ) → RuledLog log → AdmittedSince log (number_of log) L
