-- The tree of a region's key that is kept to sign with again. To which key does it belong?
use Rattle.std.specs.Prelude.{◌≡◌, ℕ, find, Option, None, Some}
use Rattle.mb_model.specs.declared.region.RegionKey.{RegionKey}
use Rattle.mb_model.specs.declared.state.State.{State}
use Rattle.mb_model.specs.machine.LayerEvents.{has_number}
use Rattle.mb_model.specs.owners.Regions.{region_of}
use Rattle.mb_signer.specs.Tree.{IsTreeOf}
use Rattle.mb_outbound.specs.declared.kept.RegionTree.{RegionTree}

-- a tree is kept, for the key with this number in the region of this place
abbrev pub IsKeptFor : Option RegionTree → ℕ → ℕ → Type 0
IsKeptFor None place number = ⊥
IsKeptFor (Some own) place number = (own.place ≡ place) × (own.number ≡ number)

-- if a tree is kept for that key, this is true of it
abbrev pub IfKeptFor : Option RegionTree → ℕ → ℕ → (RegionTree → Type 0) → Type 0
IfKeptFor None place number P = Unit {0}
IfKeptFor (Some own) place number P = own.place ≡ place → own.number ≡ number → P own

-- in this state, the tree is that of the key for which it is kept; if the region has no such key, nothing is said
pub record IsKeysTree (own : RegionTree) (state : State) : Type 0 where
  pub tree : (key : RegionKey) → find (has_number own.number) (region_of state own.place).keys ≡ Some key
      → IsTreeOf key.seed own.tree

-- in this state, the tree is that of the key for which it is kept, if one is kept
abbrev pub IsKeptIn : Option RegionTree → State → Type 0
IsKeptIn None state = Unit {0}
IsKeptIn (Some own) state = IsKeysTree own state
