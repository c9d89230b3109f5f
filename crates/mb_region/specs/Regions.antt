-- The contents of a memory after a region is replaced. Can a power loss leave a part of the new region?
use Rattle.std.specs.Prelude.{◌≡◌, ℕ, ◌⊎◌, List, []}
use Rattle.mb_model.specs.declared.region.Region.{Region}
use Rattle.mb_model.specs.declared.region.RegionKey.{RegionKey}
use Rattle.mb_model.specs.declared.region.Secret.{Secret}
use Rattle.mb_model.specs.declared.stored.Fate.TheVariants.{Keep}
use Rattle.mb_model.specs.outside.Board.{Memory}
use Rattle.mb_model.specs.memories.Meaning.{HoldsRegion, Contents}
use Rattle.mb_model_memory.specs.Holding.{Holds, KeepsContents, with_region_in, fate_in_slot}

-- the slot is that of a region, 2 or 3
abbrev pub IsRegionSlot : ℕ → Type 0
IsRegionSlot slot = (slot ≡ 2) ⊎ (slot ≡ 3)

-- an area holds some region
pub record HoldsSomeRegion (area : List ℕ) : Type 0 where
  pub region : Region
  pub holds : HoldsRegion area region

-- whatever contents the memory held, it holds them with this region in the slot
pub record ReplacesRegion (slot : ℕ) (region : Region) (before after : Memory) : Type 0 where
  pub replaced : (contents : Contents) → Holds before contents → Holds after (with_region_in slot region contents)

-- nothing is to be done to the region in the slot, whatever the memory holds
pub record HasNoFate (slot : ℕ) (memory : Memory) : Type 0 where
  pub none : (contents : Contents) → Holds memory contents → fate_in_slot slot contents.root.pending ≡ Keep

-- the contents of the memory stay, or the region in the slot is replaced by this one
abbrev pub KeepsOrReplaces : ℕ → Region → Memory → Memory → Type 0
KeepsOrReplaces slot region before after = KeepsContents before after ⊎ ReplacesRegion slot region before after

-- How many write calls it takes to put a region in the place of this one, and to wipe this one: area, selector, and the
-- old area. Of an empty region there is nothing to wipe.
abbrev pub writes_over_all : List Secret → List RegionKey → ℕ
writes_over_all [] [] = 2
writes_over_all secrets keys = 3

abbrev pub writes_over : Region → ℕ
writes_over region = writes_over_all region.secrets region.keys
