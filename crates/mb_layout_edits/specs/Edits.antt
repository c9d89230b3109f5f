-- What an edit of a stored record, without memory, leaves. Which record do the bytes spell afterwards?
use Rattle.std.specs.Prelude.{◌≡◌, ℕ, ◌<◌, ◌≤◌, List, find}
use Rattle.std.specs.Prelude.{Some, None, Result, Ok, Err}
use Rattle.mb_model.specs.declared.limits.TheConstants.{KEY_USES}
use Rattle.mb_model.specs.declared.region.Region.{Region}
use Rattle.mb_model.specs.declared.region.RegionKey.{RegionKey}
use Rattle.mb_model.specs.declared.stored.Fate.{Fate}
use Rattle.mb_model.specs.machine.LayerEvents.{has_number, with_use}
use Rattle.mb_model.specs.memories.Meaning.{region_after_fate}
use Rattle.mb_model.specs.records.RegionFormat.{SpellsRegion, CanBeWritten, written_region}
use Rattle.mb_layout_edits.specs.declared.usage.NotUsed.{NotUsed}
use Rattle.mb_layout_edits.specs.declared.usage.NotUsed.TheVariants.{NoKey, Spent}

-- If the old bytes spell a region, the new ones are those that are written for that region after its fate, provided
-- that it can be written.
abbrev pub IsFated : Fate → List ℕ → List ℕ → Type 0
IsFated fate old new =
    (region : Region) → SpellsRegion old region → CanBeWritten (region_after_fate fate region)
    → new ≡ written_region (region_after_fate fate region)

-- the region with one more use of the key of this number
abbrev pub region_with_use : ℕ → Region → Region
region_with_use number region = record region { keys = with_use number region.keys }

-- The first key of this number has an index left, and the bytes afterwards are those that are written for the region
-- with one more use of it, if that can be written.
pub record IsUsed (region : Region) (number : ℕ) (key : RegionKey) (new : List ℕ) : Type 0 where
  pub found : find (has_number number) region.keys ≡ Some key
  pub left : key.uses < KEY_USES
  pub stored : CanBeWritten (region_with_use number region) → new ≡ written_region (region_with_use number region)

-- no index of the key is left
pub record IsSpent (region : Region) (number : ℕ) : Type 0 where
  pub key : RegionKey
  pub found : find (has_number number) region.keys ≡ Some key
  pub spent : KEY_USES ≤ key.uses

-- the result of using a key of a region
abbrev pub UseOf : Region → ℕ → Result RegionKey NotUsed → List ℕ → Type 0
UseOf region number (Ok key) new = IsUsed region number key new
UseOf region number (Err NoKey) new = find (has_number number) region.keys ≡ None
UseOf region number (Err Spent) new = IsSpent region number
