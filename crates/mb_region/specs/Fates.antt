-- The fate of a stored region: what applying it needs, and what it leaves.
use Rattle.std.specs.Prelude.{◌≡◌, ℕ, ◌⊎◌, List}
use Rattle.mb_model.specs.declared.region.Region.{Region}
use Rattle.mb_model.specs.declared.stored.Fate.{Fate}
use Rattle.mb_model.specs.outside.Board.{Memory}
use Rattle.mb_model.specs.records.RegionFormat.{CanBeWritten}
use Rattle.mb_model.specs.memories.Meaning.{HoldsRegion, Contents, region_after_fate}
use Rattle.mb_model_memory.specs.Holding.{Holds, region_in_slot, with_region_in, fate_in_slot}

-- an area holds a region that can be written after this fate
pub record CanBeFated (fate : Fate) (area : List ℕ) : Type 0 where
  pub region : Region
  pub holds : HoldsRegion area region
  pub stored : CanBeWritten (region_after_fate fate region)

-- The memory holds contents in which this fate is pending for the region in the slot, which can be written after it.
pub record IsPending (slot : ℕ) (fate : Fate) (memory : Memory) : Type 0 where
  pub contents : Contents
  pub holds : Holds memory contents
  pub pending : (any : Contents) → Holds memory any → fate_in_slot slot any.root.pending ≡ fate
  pub stored : CanBeWritten (region_after_fate fate (region_in_slot slot contents))

-- the contents after the fate of the region in the slot
abbrev pub fated_in : ℕ → Fate → Contents → Contents
fated_in slot fate contents = with_region_in slot (region_after_fate fate (region_in_slot slot contents)) contents

-- whatever contents the memory held, it holds them after the fate
pub record AppliesFate (slot : ℕ) (fate : Fate) (before after : Memory) : Type 0 where
  pub applied : (contents : Contents) → Holds before contents → Holds after (fated_in slot fate contents)

-- whatever contents the memory held, it holds them still, or after the fate
abbrev pub KeepsOrApplies : ℕ → Fate → Memory → Memory → Type 0
KeepsOrApplies slot fate before after =
    (contents : Contents) → Holds before contents → Holds after contents ⊎ Holds after (fated_in slot fate contents)
