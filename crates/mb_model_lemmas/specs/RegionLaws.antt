-- Laws of the regions: each stays one that a device can have, whatever is done. Does a region ever hold what its log
-- does not say?
use Rattle.std.specs.Prelude.{◌≡◌, ◌≢◌, ℕ, ◌+◌, ◌<◌, ◌≤◌, false, not, List, [], ◌∷◌, ◌++◌, length, map}
use Rattle.std.specs.Prelude.{filter, find, AllPairs, Contains, Option, None, Some, IsTrue}
use Rattle.std.specs.List.{list_any}
use Rattle.mb_model.specs.declared.key.KeySeed.{KeySeed}
use Rattle.mb_model.specs.declared.key.PublicKey.{PublicKey}
use Rattle.mb_model.specs.declared.layer.Layer.{Layer}
use Rattle.mb_model.specs.declared.layer.Layers.{Layers}
use Rattle.mb_model.specs.declared.layer.Pair.{Pair}
use Rattle.mb_model.specs.declared.order.ChangeKind.{ChangeKind}
use Rattle.mb_model.specs.declared.order.KeyKind.{KeyKind}
use Rattle.mb_model.specs.declared.order.Order.{Order}
use Rattle.mb_model.specs.declared.entry.Entry.{Entry}
use Rattle.mb_model.specs.declared.entry.Entry.TheVariants.{Change, NewKey, Succession}
use Rattle.mb_model.specs.declared.region.Region.{Region}
use Rattle.mb_model.specs.declared.region.RegionKey.{RegionKey}
use Rattle.mb_model.specs.declared.region.Secret.{Secret}
use Rattle.mb_model.specs.declared.state.State.{State}
use Rattle.mb_model.specs.declared.stored.Fate.{Fate}
use Rattle.mb_model.specs.declared.stored.Fate.TheVariants.{Keep, AddKey}
use Rattle.mb_model.specs.owners.Layers.{layer_of, is_upper, Runnable}
use Rattle.mb_model.specs.owners.Rules.{kind_of, change_of, Condition, CanPlace, kept_regions, after}
use Rattle.mb_model.specs.owners.Log.{entries_of, is_change, number_of, layers_of, keys_made_by, RuledLog}
use Rattle.mb_model.specs.owners.Lives.{Alive, alive_keys}
use Rattle.mb_model.specs.owners.Regions.{region_after, with_key}
use Rattle.mb_model.specs.signatures.Signing.{public_of}
use Rattle.mb_model.specs.owners.Regions.{region_of, with_region}
use Rattle.mb_model.specs.machine.OrderChecks.{view_of}
use Rattle.mb_model.specs.machine.OrderEffects.{key_made, cosigners_of, state_after_succession, state_after_change}
use Rattle.mb_model.specs.machine.OrderEffects.{state_after_new_key}
use Rattle.mb_model.specs.machine.LayerEvents.{Outcome, has_name, with_secret, has_number, with_use, put_event}
use Rattle.mb_model.specs.machine.LayerEvents.{get_event}
use Rattle.mb_model.specs.machine.LayerEvents.{drop_event, sign_event, on_region}
use Rattle.mb_model.specs.machine.Fates.{change_fate, key_fate}
use Rattle.mb_model.specs.memories.Meaning.{region_after_fate}
use Rattle.mb_model.specs.memories.Valid.{as_made, IsValidRegion, IsValidState}
use Rattle.mb_model_lemmas.specs.AliveLaws.{made_by}

-- ---- entries of the log

-- the log with a change of layer k that puts `new` there
abbrev pub with_change :
    List Entry → Layers → ℕ → ℕ → ℕ → ChangeKind → ℕ → Pair → Layer → Option PublicKey → List Entry
with_change log layers version position number kind k cosigned new next =
    let now = after layers kind k cosigned new in
    log ++ Change version position number kind k cosigned now (kept_regions layers kind k cosigned) next ∷ []

-- a valid region stays valid over a change of any layer, as the change leaves it
abbrev pub ChangesKeepRegionsValid : Type 0
ChangesKeepRegionsValid =
    (log : List Entry) (layers : Layers) (version position number : ℕ) (kind : ChangeKind) (k : ℕ) (cosigned : Pair)
    (new : Layer) (next : Option PublicKey) (L : ℕ) (region : Region)
    → IsTrue (is_upper L) → layers ≡ layers_of log → CanPlace kind (layer_of layers k) new
    → IsValidRegion log layers L region
    → IsValidRegion
    (with_change log layers version position number kind k cosigned new next) (after layers kind k cosigned new) L
    (region_after layers kind k cosigned L region)

-- the log with the next key
abbrev pub with_new_key : List Entry → ℕ → ℕ → KeyKind → KeySeed → List Entry
with_new_key log position L kind seed =
    log ++ NewKey position (number_of log) (keys_made_by log) L kind (public_of seed) ∷ []

-- the next key as it stands in its region, without uses
abbrev pub unused_key : List Entry → KeyKind → KeySeed → RegionKey
unused_key log kind seed = record { number = keys_made_by log; kind = kind; seed = seed; uses = 0 }

-- a valid region stays valid with a new key of its layer, which it gets
abbrev pub NewKeysKeepRegionsValid : Type 0
NewKeysKeepRegionsValid =
    (log : List Entry) (layers : Layers) (position L : ℕ) (kind : KeyKind) (seed : KeySeed) (region : Region)
    → RuledLog log → Condition layers None L → length region.keys < 8 → IsValidRegion log layers L region
    → IsValidRegion (with_new_key log position L kind seed) layers L (with_key (unused_key log kind seed) region)

-- a valid region stays valid over a new key of another layer
abbrev pub OtherKeysKeepRegionsValid : Type 0
OtherKeysKeepRegionsValid =
    (log : List Entry) (layers : Layers) (position number key_number other : ℕ) (kind : KeyKind) (key : PublicKey)
    (L : ℕ) (region : Region)
    → other ≢ L → IsValidRegion log layers L region
    → IsValidRegion (log ++ NewKey position number key_number other kind key ∷ []) layers L region

-- a valid region stays valid over any entry that is no change and makes no key of its layer
abbrev pub OtherEntriesKeepRegionsValid : Type 0
OtherEntriesKeepRegionsValid =
    (log : List Entry) (layers : Layers) (entry : Entry) (L : ℕ) (region : Region)
    → is_change entry ≡ false → made_by L entry ≡ []
    → IsValidRegion log layers L region → IsValidRegion (log ++ entry ∷ []) layers L region

-- a valid region stays valid over a succession
abbrev pub SuccessionsKeepRegionsValid : Type 0
SuccessionsKeepRegionsValid =
    (log : List Entry) (layers : Layers) (position : ℕ) (key : PublicKey) (L : ℕ) (region : Region)
    → IsValidRegion log layers L region → IsValidRegion (log ++ Succession position key ∷ []) layers L region

-- ---- what layers do

-- the region with this secret, put at the configuration that the log says
abbrev pub with_put_secret : List Entry → List ℕ → List ℕ → Region → Region
with_put_secret log name value region =
    let secret : Secret = record { name = name; value = value; born = number_of log } in
    record region { secrets = with_secret secret region.secrets }

-- a valid region stays valid with a secret that is put
abbrev pub PutsKeepRegionsValid : Type 0
PutsKeepRegionsValid =
    (log : List Entry) (layers : Layers) (L : ℕ) (name value : List ℕ) (region : Region)
    → RuledLog log → IsTrue (is_upper L) → Runnable layers L → IsValidRegion log layers L region
    → IsValidRegion log layers L (with_put_secret log name value region)

-- the region without the secret of this name
abbrev pub without_secret : List ℕ → Region → Region
without_secret name region =
    record region { secrets = filter (λ secret. not (has_name name secret)) region.secrets }

-- a valid region stays valid without a secret that is dropped
abbrev pub DropsKeepRegionsValid : Type 0
DropsKeepRegionsValid =
    (log : List Entry) (layers : Layers) (L : ℕ) (name : List ℕ) (region : Region)
    → IsTrue (is_upper L) → Runnable layers L → IsValidRegion log layers L region
    → IsValidRegion log layers L (without_secret name region)

-- a valid region stays valid with a use of a key
abbrev pub UsesKeepRegionsValid : Type 0
UsesKeepRegionsValid =
    (log : List Entry) (layers : Layers) (L number : ℕ) (region : Region)
    → IsTrue (is_upper L) → Runnable layers L → IsValidRegion log layers L region
    → IsValidRegion log layers L (record region { keys = with_use number region.keys })

-- ---- states

-- a region of a valid state is valid
abbrev pub RegionsOfValidStates : Type 0
RegionsOfValidStates =
    (state : State) (L : ℕ) → IsTrue (is_upper L) → IsValidState state
    → IsValidRegion (entries_of state.log) state.layers L (region_of state L)

-- a valid state stays valid with another valid region
abbrev pub StatesWithAnotherRegion : Type 0
StatesWithAnotherRegion =
    (state : State) (L : ℕ) (region : Region) → IsTrue (is_upper L) → IsValidState state
    → IsValidRegion (entries_of state.log) state.layers L region → IsValidState (with_region state L region)

-- the log of a valid state obeys the rules
abbrev pub ValidLogsAreRuled : Type 0
ValidLogsAreRuled = (state : State) → IsValidState state → RuledLog (entries_of state.log)

-- a valid state stays valid if a layer does this with region L, or is refused
abbrev pub KeepsStatesValid : ℕ → (State → Outcome) → Type 0
KeepsStatesValid L event =
    (state : State) (ratchet : ℕ) → IsValidState state → IsValidState (on_region ratchet L event state).1

abbrev pub PutsKeepStatesValid : Type 0
PutsKeepStatesValid = (L : ℕ) (name value : List ℕ) → KeepsStatesValid L (put_event L name value)

abbrev pub GetsKeepStatesValid : Type 0
GetsKeepStatesValid = (L : ℕ) (name : List ℕ) → KeepsStatesValid L (get_event L name)

abbrev pub DropsKeepStatesValid : Type 0
DropsKeepStatesValid = (L : ℕ) (name : List ℕ) → KeepsStatesValid L (drop_event L name)

abbrev pub SignsKeepStatesValid : Type 0
SignsKeepStatesValid = (L number : ℕ) (message : List ℕ) → KeepsStatesValid L (sign_event L number message)

-- both regions of a state are valid
pub record HasValidRegions (state : State) : Type 0 where
  pub two : IsValidRegion (entries_of state.log) state.layers 2 state.two
  pub three : IsValidRegion (entries_of state.log) state.layers 3 state.three

-- both regions stay valid when the device key gives way to the next
abbrev pub SuccessionsKeepBothValid : Type 0
SuccessionsKeepBothValid =
    (state : State) (draw : List ℕ) → HasValidRegions state → HasValidRegions (state_after_succession state draw)

-- both regions stay valid when an order changes a layer
abbrev pub ChangesKeepBothValid : Type 0
ChangesKeepBothValid =
    (state : State) (kind : ChangeKind) (order : Order) (draw : List ℕ) → change_of (kind_of order.act) ≡ Some kind
    → state.layers ≡ layers_of (entries_of state.log) → HasValidRegions state
    → HasValidRegions (state_after_change state kind order draw)

-- both regions stay valid when an order makes a key
abbrev pub NewKeysKeepBothValid : Type 0
NewKeysKeepBothValid =
    (state : State) (L : ℕ) (kind : KeyKind) (draw : List ℕ)
    → RuledLog (entries_of state.log) → Condition state.layers None L
    → length (region_of state L).keys < 8 → HasValidRegions state
    → HasValidRegions (state_after_new_key state L kind draw)

-- ---- numbers of keys

-- the keys of a region stand in the order of their numbers
abbrev pub RegionNumbersIncrease : Type 0
RegionNumbersIncrease =
    (log : List Entry) (L : ℕ) (keys : List RegionKey) → RuledLog log → map as_made keys ≡ alive_keys log L
    → AllPairs (λ a b. a.number < b.number) keys

-- no key of a region has the number of the next key, or one above
abbrev pub HighNumbersAreNotThere : Type 0
HighNumbersAreNotThere =
    (log : List Entry) (L n : ℕ) (keys : List RegionKey) → RuledLog log → map as_made keys ≡ alive_keys log L
    → keys_made_by log ≤ n → list_any (has_number n) keys ≡ false

-- if numbers increase, a key is found by its number
abbrev pub KeysAreFoundByNumber : Type 0
KeysAreFoundByNumber =
    (front : List RegionKey) (key : RegionKey) (rest : List RegionKey)
    → AllPairs (λ a b. a.number < b.number) (front ++ key ∷ rest)
    → find (has_number key.number) (front ++ key ∷ rest) ≡ Some key

-- if numbers increase, a use by number counts for that key alone
abbrev pub KeysAreUsedByNumber : Type 0
KeysAreUsedByNumber =
    (front : List RegionKey) (key : RegionKey) (rest : List RegionKey)
    → AllPairs (λ a b. a.number < b.number) (front ++ key ∷ rest)
    → with_use key.number (front ++ key ∷ rest) ≡ front ++ record key { uses = key.uses + 1 } ∷ rest

-- ---- fates

-- a fate that is done twice leaves what it leaves when done once
abbrev pub TwiceFatedIsFated : Type 0
TwiceFatedIsFated =
    (fate : Fate) (region : Region)
    → region_after_fate fate (region_after_fate fate region) ≡ region_after_fate fate region

-- a region that is kept stays as it is
abbrev pub KeptIsAsBefore : Type 0
KeptIsAsBefore = (region : Region) → region_after_fate Keep region ≡ region

-- what a change leaves of a region is what a fate leaves of it
abbrev pub ChangesAreFates : Type 0
ChangesAreFates =
    (layers : Layers) (kind : ChangeKind) (k : ℕ) (cosigned : Pair) (L : ℕ) (region : Region)
    → region_after layers kind k cosigned L region ≡ region_after_fate (change_fate layers kind k cosigned L) region

-- a new key is added by a fate, if no key has its number
abbrev pub NewKeysAreFates : Type 0
NewKeysAreFates =
    (key : RegionKey) (region : Region) → list_any (has_number key.number) region.keys ≡ false
    → with_key key region ≡ region_after_fate (AddKey key) region

-- both regions are left as these fates say
pub record AreFated (before after : State) (two three : Fate) : Type 0 where
  pub two_is : after.two ≡ region_after_fate two before.two
  pub three_is : after.three ≡ region_after_fate three before.three

-- an order that changes a layer leaves both regions as its fates say
abbrev pub ChangedStatesAreFated : Type 0
ChangedStatesAreFated =
    (state : State) (kind : ChangeKind) (order : Order) (draw : List ℕ)
    → AreFated state (state_after_change state kind order draw)
    (change_fate state.layers kind order.layer (cosigners_of order) 2)
    (change_fate state.layers kind order.layer (cosigners_of order) 3)

-- an order that makes a key leaves both regions as its fates say
abbrev pub KeyedStatesAreFated : Type 0
KeyedStatesAreFated =
    (state : State) (L : ℕ) (kind : KeyKind) (draw : List ℕ) (key : RegionKey) → IsTrue (is_upper L)
    → RuledLog (entries_of state.log) → HasValidRegions state
    → key ≡ key_made (view_of state) kind draw
    → AreFated state (state_after_new_key state L kind draw) (key_fate L key 2) (key_fate L key 3)

-- ---- keys and the log

-- a key that stands in a valid region is alive by its log
abbrev pub RegionKeysLive : Type 0
RegionKeysLive =
    (log : List Entry) (layers : Layers) (L : ℕ) (region : Region) (key : RegionKey) → IsValidRegion log layers L region
    → Contains region.keys key → Alive log key.number L key.kind (public_of key.seed)

-- a key that is alive by the log stands in the valid region of its layer
abbrev pub LivingKeysStand : Type 0
LivingKeysStand =
    (log : List Entry) (layers : Layers) (L : ℕ) (region : Region) (n : ℕ) (kind : KeyKind) (public : PublicKey)
    → IsValidRegion log layers L region
    → Alive log n L kind public
    → (key : RegionKey) × Contains region.keys key × (as_made key ≡ record { number = n; kind = kind; key = public })
