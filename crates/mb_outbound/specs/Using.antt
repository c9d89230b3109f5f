-- Finding the next use of a key of a stored region.
use Rattle.std.specs.Prelude.{◌≡◌, ℕ, List, find, None, Result, Ok, Err}
use Rattle.mb_model.specs.declared.region.Region.{Region}
use Rattle.mb_model.specs.declared.region.RegionKey.{RegionKey}
use Rattle.mb_model.specs.machine.LayerEvents.{has_number}
use Rattle.mb_model.specs.records.RegionFormat.{SpellsRegion}
use Rattle.mb_layout_edits.specs.declared.usage.NotUsed.{NotUsed}
use Rattle.mb_layout_edits.specs.declared.usage.NotUsed.TheVariants.{NoKey, Spent}
use Rattle.mb_layout_edits.specs.Edits.{region_with_use, IsSpent}
use Rattle.mb_outbound.specs.Binding.{HasUse}

-- the key has an index left, and the bytes spell the region with one more use of it
pub record IsUsable (region : Region) (number : ℕ) (key : RegionKey) (bytes : List ℕ) : Type 0 where
  pub has_use : HasUse region number key
  pub stands : SpellsRegion bytes (region_with_use number region)

-- the result of looking for the next use of a key
abbrev pub FindsUse : Region → ℕ → Result RegionKey NotUsed → List ℕ → Type 0
FindsUse region number (Ok key) bytes = IsUsable region number key bytes
FindsUse region number (Err NoKey) bytes = find (has_number number) region.keys ≡ None
FindsUse region number (Err Spent) bytes = IsSpent region number
