-- A region whose keys alone were decoded. Which region does it mean?
use Rattle.std.specs.Prelude.{◌≡◌, ℕ, List, length, Option, Some, None, Result, Ok, Err}
use Rattle.mb_model.specs.declared.tools.BadRecord.{BadRecord}
use Rattle.mb_model.specs.declared.region.Region.{Region}
use Rattle.mb_model.specs.declared.limits.TheConstants.{SECRET_LIMIT}
use Rattle.mb_model.specs.records.RegionFormat.{least_keys, secrets_format, region_format, SpellsRegion}
use Rattle.mb_layout_edits.specs.declared.stored.StoredRegion.{StoredRegion}

-- the bytes spell the secrets of the region, which also give the least number of keys, and the keys are the region's
pub record IsStoredAs (stored : StoredRegion) (region : Region) : Type 0 where
  pub secrets : stored.secrets.now ≡ (secrets_format SECRET_LIMIT).spelling region.secrets
  pub least : stored.least ≡ least_keys region.secrets
  pub keys : stored.keys ≡ region.keys

-- a record was read from the beginning, and this is the region in it
pub record IsWalked (bytes : List ℕ) (stored : StoredRegion) : Type 0 where
  pub version : ℕ
  pub region : Region
  pub after : ℕ
  pub reads : region_format.reads bytes 0 ≡ Ok ((version, region), after)
  pub stands : IsStoredAs stored region

abbrev pub Walks : List ℕ → Result StoredRegion BadRecord → Type 0
Walks bytes (Ok stored) = IsWalked bytes stored
Walks bytes (Err bad) = region_format.reads bytes 0 ≡ Err bad.at

-- a stored region means the region that the bytes spell; if there is none, the bytes spell none
abbrev pub TakesApart : List ℕ → Option StoredRegion → Type 0
TakesApart bytes (Some stored) = (region : Region) → SpellsRegion bytes region → IsStoredAs stored region
TakesApart bytes None = (region : Region) → SpellsRegion bytes region → ⊥

-- the region that the bytes spell has this many keys; if there is no count, the bytes spell none
abbrev pub CountsKeys : List ℕ → Option ℕ → Type 0
CountsKeys bytes (Some count) = (region : Region) → SpellsRegion bytes region → count ≡ length region.keys
CountsKeys bytes None = (region : Region) → SpellsRegion bytes region → ⊥
