-- When the key of a region ends, and in which configurations it lived. Which code can have signed with it?
use Rattle.std.specs.Prelude.{◌≡◌, ℕ, ◌==◌, nat_lt, nat_le, Bool, false, not, ◌&&◌, List, [], ◌∷◌, ◌++◌, map, flat_map}
use Rattle.std.specs.Prelude.{All, if◌then◌else◌}
use Rattle.std.specs.List.{list_all}
use Rattle.mb_model.specs.declared.key.PublicKey.{PublicKey}
use Rattle.mb_model.specs.declared.layer.Layers.{Layers}
use Rattle.mb_model.specs.declared.order.KeyKind.{KeyKind}
use Rattle.mb_model.specs.declared.order.KeyKind.TheVariants as kinds
use Rattle.mb_model.specs.declared.entry.Entry.{Entry}
use Rattle.mb_model.specs.declared.entry.Entry.TheVariants.{Birth, Change, NewKey, Succession}
use Rattle.mb_model.specs.declared.state.Configuration.{Configuration}
use Rattle.mb_model.specs.owners.Layers.{layer_without_owner, is_in}
use Rattle.mb_model.specs.owners.Log.{layers_of}

-- The entry ends each key of this kind and layer that was born before it: an epoch key if it is a change that does not
-- keep the region, a configuration key if it is a change of the layer or of one beneath it.
abbrev pub ends_keys : KeyKind → ℕ → Entry → Bool
ends_keys kinds.Epoch key_layer (Change version position number kind layer cosigned layers kept next) =
    not (is_in key_layer kept)
ends_keys kinds.Configuration key_layer (Change version position number kind layer cosigned layers kept next) =
    nat_le layer key_layer
ends_keys key_kind key_layer (Birth version serial key layers) = false
ends_keys key_kind key_layer (NewKey position number key_number layer kind key) = false
ends_keys key_kind key_layer (Succession position key) = false

-- The key with this number is born in the log, in the region of its layer, and no later entry ends it: this is what it
-- means for a key to be alive. The laws of mb_model_laws say that the list `alive_keys` below has exactly these keys
-- (`alive_keys_are_alive`), that `is_alive` of a chain is true of them alone (`the_flag_is_life`), and that such a key
-- lives in the last configuration of `lives_of` (`alive_keys_live_now`).
pub record Alive (log : List Entry) (key_number key_layer : ℕ) (kind : KeyKind) (key : PublicKey) : Type 0 where
  pub before : List Entry
  pub position : ℕ
  pub number : ℕ
  pub later : List Entry
  pub split : log ≡ before ++ NewKey position number key_number key_layer kind key ∷ later
  pub lasts : All (λ entry. ends_keys kind key_layer entry ≡ false) later

-- the layers up to that of the key; each layer above appears as unowned
abbrev pub layers_upto : ℕ → Layers → Layers
layers_upto key_layer layers = record {
  one = layers.one;
  two = if nat_lt key_layer 2 then layer_without_owner else layers.two;
  three = if nat_lt key_layer 3 then layer_without_owner else layers.three;
}

-- the configuration of a key of this layer that has this number and these layers
abbrev pub configuration : ℕ → ℕ → Layers → Configuration
configuration key_layer number layers =
    record { number = number; upto = key_layer; layers = layers_upto key_layer layers }

-- an entry of a list, with those before it and those after it
pub record Split : Type 0 where
  pub before : List Entry
  pub entry : Entry
  pub later : List Entry

-- a split with one more entry at the front of its list
abbrev pub with_front : Entry → Split → Split
with_front entry split = record split { before = entry ∷ split.before }

-- each entry of a list in order, with those before it and those after it
unfoldable pub splits : List Entry → List Split
splits [] = []
splits (entry ∷ rest) =
    record { before = []; entry = entry; later = rest } ∷ map (with_front entry) (splits rest)

-- The configuration that an entry opens for a key of this layer: a change at the layer or beneath it opens one. Its
-- number is the one that the entry names, and no count of the list.
abbrev pub configurations_opened_by : ℕ → Entry → List Configuration
configurations_opened_by key_layer (Birth version serial key layers) = []
configurations_opened_by key_layer (Change version position number kind layer cosigned layers kept next) =
    if nat_le layer key_layer then configuration key_layer number layers ∷ [] else []
configurations_opened_by key_layer (NewKey position number key_number layer kind key) = []
configurations_opened_by key_layer (Succession position key) = []

-- the configuration that a later entry opens for a key, if no entry from the key's own up to that one ends the key
abbrev pub configurations_outlived_by : KeyKind → ℕ → Split → List Configuration
configurations_outlived_by kind key_layer split =
    if list_all (λ entry. not (ends_keys kind key_layer entry)) split.before
    && not (ends_keys kind key_layer split.entry)
    then configurations_opened_by key_layer split.entry
    else []

-- the configurations of the key with this number, if the entry makes it: that of its birth, and those that later
-- entries open while it lives
abbrev pub lives_from : ℕ → List Entry → Entry → List Entry → List Configuration
lives_from asked before (Birth version serial key layers) later = []
lives_from asked before (Change version position number kind layer cosigned layers kept next) later = []
lives_from asked before (NewKey position number key_number layer kind key) later =
    if key_number == asked
    then configuration layer number (layers_of before) ∷ flat_map (configurations_outlived_by kind layer) (splits later)
    else []
lives_from asked before (Succession position key) later = []

-- the configurations in which the key with this number lived; none if no entry makes such a key
unfoldable pub lives_of : List Entry → ℕ → List Configuration
lives_of log key_number = flat_map (λ split. lives_from key_number split.before split.entry split.later) (splits log)

-- what an entry says of a key that it makes
pub record MadeKey : Type 0 where
  pub number : ℕ
  pub kind : KeyKind
  pub key : PublicKey

-- the key that an entry makes in the region of this layer, if no later entry ends it
abbrev pub lasting_keys_of : ℕ → Entry → List Entry → List MadeKey
lasting_keys_of key_layer (Birth version serial key layers) later = []
lasting_keys_of key_layer (Change version position number kind layer cosigned layers kept next) later = []
lasting_keys_of key_layer (NewKey position number key_number layer kind key) later =
    if (layer == key_layer) && list_all (λ entry. not (ends_keys kind key_layer entry)) later
    then record { number = key_number; kind = kind; key = key } ∷ []
    else []
lasting_keys_of key_layer (Succession position key) later = []

-- the keys of this layer that are alive according to a log, in the order of their birth: exactly those that are `Alive`
unfoldable pub alive_keys : List Entry → ℕ → List MadeKey
alive_keys log key_layer = flat_map (λ split. lasting_keys_of key_layer split.entry split.later) (splits log)
