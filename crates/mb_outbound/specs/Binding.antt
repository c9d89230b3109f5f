-- Binding a key of a region: one more use of it is stored before the right to sign is returned. Can two statements be
-- signed with one index?
use Rattle.std.specs.Prelude.{◌≡◌, ℕ, ◌<◌, ◌⊎◌, List, find, AllPairs, None, Some, Result, Ok, Err}
use Rattle.mb_model.specs.declared.key.KeySeed.{KeySeed}
use Rattle.mb_model.specs.declared.limits.TheConstants.{KEY_USES}
use Rattle.mb_model.specs.declared.region.Region.{Region}
use Rattle.mb_model.specs.declared.region.RegionKey.{RegionKey}
use Rattle.mb_model.specs.declared.state.State.{State}
use Rattle.mb_model.specs.outside.Board.{Memory, Meter}
use Rattle.mb_model.specs.machine.LayerEvents.{has_number}
use Rattle.mb_model.specs.owners.Regions.{region_of, with_region}
use Rattle.mb_model.specs.memories.Meaning.{HoldsRegion, Contents}
use Rattle.mb_model_memory.specs.Holding.{Holds, region_in_slot, with_region_in}
use Rattle.mb_layout_edits.specs.Edits.{region_with_use, IsSpent}
use Rattle.mb_outbound.specs.declared.binding.BindEnd.{BindEnd}
use Rattle.mb_outbound.specs.declared.binding.BindEnd.TheVariants.{NoKey, Spent, Stopped}

-- the keys of a region stand in the order of their numbers, as those of a valid state do
abbrev pub AreKeysInOrder : Region → Type 0
AreKeysInOrder region = AllPairs (λ a b. a.number < b.number) region.keys

-- an area holds a region whose keys stand in order
pub record HoldsOrdered (area : List ℕ) : Type 0 where
  pub region : Region
  pub holds : HoldsRegion area region
  pub ordered : AreKeysInOrder region

-- the region has a key of this number, which has an index left
pub record HasUse (region : Region) (number : ℕ) (key : RegionKey) : Type 0 where
  pub found : find (has_number number) region.keys ≡ Some key
  pub left : key.uses < KEY_USES

-- the region has a key of this number with an index left
abbrev pub HasUnspentKey : Region → ℕ → Type 0
HasUnspentKey region number = (key : RegionKey) × HasUse region number key

-- the right is to the next index of the region's key with this number, and the seed is that key's
pub record IsBound (region : Region) (number right : ℕ) (handed : KeySeed) : Type 0 where
  pub key : RegionKey
  pub has_use : HasUse region number key
  pub index : right ≡ key.uses
  pub seed : handed ≡ key.seed

-- the result of binding a key of a region
abbrev pub BindOf : {S : Type 0} → Region → ℕ → Result (S × ℕ × KeySeed) (BindEnd S) → Type 0
BindOf region number (Ok bound) = IsBound region number bound.1 bound.2
BindOf region number (Err (NoKey state)) = find (has_number number) region.keys ≡ None
BindOf region number (Err (Spent state)) = IsSpent region number
BindOf region number (Err (Stopped off)) = HasUnspentKey region number

-- whether power failed in the call
abbrev pub power_in : {A S : Type 0} → Result A (BindEnd S) → Result (Unit {0}) (Unit {0})
power_in (Ok bound) = Ok tt
power_in (Err (NoKey state)) = Ok tt
power_in (Err (Spent state)) = Ok tt
power_in (Err (Stopped off)) = Err tt

-- if the key is missing or spent, nothing was written
abbrev pub StaysUnbound : {A S : Type 0} → Result A (BindEnd S) → Memory → Memory → Meter → Meter → Type 0
StaysUnbound (Ok bound) before after old new = Unit {0}
StaysUnbound (Err (NoKey state)) before after old new = (after ≡ before) × (new ≡ old)
StaysUnbound (Err (Spent state)) before after old new = (after ≡ before) × (new ≡ old)
StaysUnbound (Err (Stopped off)) before after old new = Unit {0}

-- the contents with one more use of the key in the region of this slot
abbrev pub used_in : ℕ → ℕ → Contents → Contents
used_in slot number contents = with_region_in slot (region_with_use number (region_in_slot slot contents)) contents

-- whatever contents the memory held, it holds them with one more use of the key
pub record StoresUse (slot number : ℕ) (before after : Memory) : Type 0 where
  pub stored : (contents : Contents) → Holds before contents → Holds after (used_in slot number contents)

-- whatever contents the memory held, it holds them still, or with one more use of the key
abbrev pub KeepsOrStoresUse : ℕ → ℕ → Memory → Memory → Type 0
KeepsOrStoresUse slot number before after =
    (contents : Contents) → Holds before contents → Holds after contents ⊎ Holds after (used_in slot number contents)

-- the state with one more use of the key in the region of this layer
abbrev pub state_used : ℕ → ℕ → State → State
state_used L number state = with_region state L (region_with_use number (region_of state L))
