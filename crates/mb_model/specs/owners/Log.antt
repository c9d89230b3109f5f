-- The log of a device: what its entries say together, and which entry may follow. Can a log record a change that the
-- rules forbid?
use Rattle.std.specs.Prelude.{◌≡◌, ◌≢◌, ℕ, ◌+◌, ◌==◌, ◌⊎◌, Bool, true, false, List, [], ◌∷◌, ◌++◌, length, map, reverse}
use Rattle.std.specs.Prelude.{take_while, count_by, sum_by}
use Rattle.std.specs.Prelude.{Option, None, Some, is_some, is_none, IsSome, IsTrue, unwrap_or}
use Rattle.std.specs.List.{list_any}
use Rattle.std.specs.Option.{option_or}
use Rattle.mb_model.specs.declared.limits.TheConstants.{LAST_INDEX}
use Rattle.mb_model.specs.declared.key.PublicKey.{PublicKey}
use Rattle.mb_model.specs.declared.layer.Layers.{Layers}
use Rattle.mb_model.specs.declared.layer.Pair.{Pair}
use Rattle.mb_model.specs.declared.order.ChangeKind.{ChangeKind}
use Rattle.mb_model.specs.declared.entry.Entry.{Entry}
use Rattle.mb_model.specs.declared.entry.Entry.TheVariants.{Birth, Change, NewKey, Succession}
use Rattle.mb_model.specs.declared.entry.SignedEntry.{SignedEntry}
use Rattle.mb_model.specs.declared.state.Figures.{Figures}
use Rattle.mb_model.specs.owners.Layers.{layer_without_owner, unowned_layers, layer_of}
use Rattle.mb_model.specs.owners.Rules.{Condition, CanPlace, after, may_cosign, kept_regions, renews}

-- the entries of a log without their signatures
abbrev pub entries_of : List SignedEntry → List Entry
entries_of log = map (λ signed. signed.entry) log

abbrev pub is_change : Entry → Bool
is_change (Birth version serial key layers) = false
is_change (Change version position number kind layer cosigned layers kept next) = true
is_change (NewKey position number key_number layer kind key) = false
is_change (Succession position key) = false

-- the layers that an entry names
abbrev pub layers_in : Entry → Option Layers
layers_in (Birth version serial key layers) = Some layers
layers_in (Change version position number kind layer cosigned layers kept next) = Some layers
layers_in (NewKey position number key_number layer kind key) = None
layers_in (Succession position key) = None

-- the device key that an entry names
abbrev pub device_in : Entry → Option PublicKey
device_in (Birth version serial key layers) = Some key
device_in (Change version position number kind layer cosigned layers kept next) = next
device_in (NewKey position number key_number layer kind key) = None
device_in (Succession position key) = Some key

-- how many keys an entry names, a region's key included
abbrev pub keys_in : Entry → ℕ
keys_in (Birth version serial key layers) = 1
keys_in (Change version position number kind layer cosigned layers kept None) = 0
keys_in (Change version position number kind layer cosigned layers kept (Some next)) = 1
keys_in (NewKey position number key_number layer kind key) = 1
keys_in (Succession position key) = 1

-- what `named` gives for the last entry for which it gives anything
unfoldable pub last_of : {X : Type 0} → (Entry → Option X) → List Entry → Option X
last_of named [] = None
last_of named (entry ∷ rest) = option_or (last_of named rest) (named entry)

-- the configuration number: how many of the entries are changes
unfoldable pub number_of : List Entry → ℕ
number_of log = count_by is_change log

-- The layers of the last birth or change; before the birth none has an owner. No log that obeys the rules is without a
-- birth; but this way each function of a log is total.
unfoldable pub layers_of : List Entry → Layers
layers_of log = unwrap_or (last_of layers_in log) unowned_layers

-- the device key that the entries name last
unfoldable pub device_of : List Entry → Option PublicKey
device_of log = last_of device_in log

-- How many entries follow the one that names the device key: those at the end that name none. A key that is named twice
-- starts at index 0 again: a reader that goes over a log once cannot count over all of it.
unfoldable pub uses_of_device_key : List Entry → ℕ
uses_of_device_key log = length (take_while (λ entry. is_none (device_in entry)) (reverse log))

-- how many keys the entries name
unfoldable pub keys_made_by : List Entry → ℕ
keys_made_by log = sum_by keys_in log

-- whether an entry is a birth or change of version 2, which spells two trusts for each of its layers
abbrev pub is_version_two : Entry → Bool
is_version_two (Birth version serial key layers) = version == 2
is_version_two (Change version position number kind layer cosigned layers kept next) = version == 2
is_version_two (NewKey position number key_number layer kind key) = false
is_version_two (Succession position key) = false

-- whether any of the entries has version 2
unfoldable pub has_version_two : List Entry → Bool
has_version_two log = list_any is_version_two log

-- the figures of a log: what its entries say together, and all that the next entry is judged by
abbrev pub figures_of : List Entry → Figures
figures_of log = record {
  length = length log;
  number = number_of log;
  layers = layers_of log;
  device = device_of log;
  uses = uses_of_device_key log;
  keys_made = keys_made_by log;
  version_two = has_version_two log;
}

-- the entry says that this many entries stand before it; a birth does not say
abbrev pub StandsAt : ℕ → Entry → Type 0
StandsAt count (Birth version serial key layers) = Unit {0}
StandsAt count (Change version position number kind layer cosigned layers kept next) = position ≡ count
StandsAt count (NewKey position number key_number layer kind key) = position ≡ count
StandsAt count (Succession position key) = position ≡ count

-- the entry stands after a log with these figures, and its signature has the next index of the device key named last
pub record Ordered (before : Figures) (entry : Entry) (index : ℕ) : Type 0 where
  pub position : StandsAt before.length entry
  pub next : index ≡ before.uses

-- each of the layers trusts changes of layer 1 and of layer 2 alike
pub record HaveEqualTrusts (layers : Layers) : Type 0 where
  pub one : layers.one.trust.one ≡ layers.one.trust.two
  pub two : layers.two.trust.one ≡ layers.two.trust.two
  pub three : layers.three.trust.one ≡ layers.three.trust.two

-- A birth or change with these layers may have this version. Version 1 spells one trust for each layer, so it can only
-- name layers whose trusts are equal. No entry of version 1 follows one of version 2. The type allows any version; one
-- that is neither 1 nor 2 breaks the rules. The rule looks at all entries before, so that it need not mention new keys
-- and successions, which have no version.
pub record MayHaveVersion (after_version_two : Bool) (version : ℕ) (layers : Layers) : Type 0 where
  pub known : (version ≡ 1) ⊎ (version ≡ 2)
  pub equal_trusts : version ≡ 1 → HaveEqualTrusts layers
  pub rises : IsTrue after_version_two → version ≡ 2

-- The layers at a birth: layer 1 has an owner and is reliable, and layers 2 and 3 have no owner. The device cannot
-- check what else the factory decided.
pub record AreFirst (layers : Layers) : Type 0 where
  pub owned : IsSome layers.one.owner
  pub reliable : IsTrue layers.one.reliable
  pub two : layers.two ≡ layer_without_owner
  pub three : layers.three ≡ layer_without_owner

-- A change of a layer has the next configuration number, and names the next device key exactly if it has to. This and
-- `ChangesRightly` are two records, so that each is the contract of one function.
pub record CountsRightly
    (before : Figures)
    (number : ℕ)
    (kind : ChangeKind)
    (changed : ℕ)
    (next : Option PublicKey) : Type 0 where
  pub counted : number ≡ before.number + 1
  -- exactly the ordinary load of layer 1 makes the next device key
  pub renewed : is_some next ≡ renews (Some kind) changed
  -- the last index of a device key signs no other change
  pub last_index : before.uses ≡ LAST_INDEX → IsSome next

-- each owner that countersigned a change of this layer may do so
pub record MayAllCosign (layers : Layers) (kind : ChangeKind) (changed : ℕ) (cosigned : Pair) : Type 0 where
  pub two : IsTrue cosigned.two → IsTrue (may_cosign layers kind changed 2)
  pub three : IsTrue cosigned.three → IsTrue (may_cosign layers kind changed 3)

-- A change of a layer turns the old layers into the new ones and keeps regions, both by the rules. The changed layer
-- says which owner, code name and trusts are put there.
pub record ChangesRightly
    (old : Layers)
    (kind : ChangeKind)
    (changed_layer : ℕ)
    (cosigned : Pair)
    (new : Layers)
    (kept : Pair) : Type 0 where
  pub allowed : Condition old (Some kind) changed_layer
  pub placed : CanPlace kind (layer_of old changed_layer) (layer_of new changed_layer)
  pub changed : new ≡ after old kind changed_layer cosigned (layer_of new changed_layer)
  pub countersigned : MayAllCosign old kind changed_layer cosigned
  pub regions : kept ≡ kept_regions old kind changed_layer cosigned

-- a new key of a layer has its numbers from the log before it, and may be made
pub record MakesRightly (before : Figures) (number key_number layer : ℕ) : Type 0 where
  pub counted : number ≡ before.number
  pub key_counted : key_number ≡ before.keys_made
  pub allowed : Condition before.layers None layer
  -- the last index of a device key signs no entry for a new key
  pub last_index : before.uses ≢ LAST_INDEX

-- By the rules the entry may follow a log with these figures: a birth as the first entry and nowhere else, and a
-- succession if only the last index of the device key is left.
abbrev pub Ruled : Figures → Entry → Type 0
Ruled before (Birth version serial key layers) =
    (before.length ≡ 0) × AreFirst layers × MayHaveVersion before.version_two version layers
Ruled before (Change version position number kind layer cosigned layers kept next) =
    (before.length ≢ 0) × CountsRightly before number kind layer next
    × ChangesRightly before.layers kind layer cosigned layers kept
    × MayHaveVersion before.version_two version layers
Ruled before (NewKey position number key_number layer kind key) =
    (before.length ≢ 0) × MakesRightly before number key_number layer
Ruled before (Succession position key) = (before.length ≢ 0) × (before.uses ≡ LAST_INDEX)

-- each entry of a log may stand after those before it
abbrev pub RuledLog : List Entry → Type 0
RuledLog log =
    (before : List Entry) (entry : Entry) (rest : List Entry) → log ≡ before ++ entry ∷ rest
    → Ruled (figures_of before) entry

-- the serial that a birth names
abbrev pub serial_in : Entry → Option (List ℕ)
serial_in (Birth version serial key layers) = Some serial
serial_in (Change version position number kind layer cosigned layers kept next) = None
serial_in (NewKey position number key_number layer kind key) = None
serial_in (Succession position key) = None

-- the serial of the device whose log this is
unfoldable pub serial_of : List Entry → Option (List ℕ)
serial_of log = last_of serial_in log
