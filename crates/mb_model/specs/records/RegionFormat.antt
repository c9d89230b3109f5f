-- How a region is spelled: its secrets and its keys. What can a layer keep?
use Rattle.std.specs.Prelude.{◌≡◌, ℕ, ◌==◌, Bool, ◌&&◌, ◌⊎◌, nat_le, if◌then◌else◌, List, [], ◌∷◌}
use Rattle.std.specs.Int.{w8, w32}
use Rattle.std.specs.List.{list_all}
use Rattle.mb_format.specs.Format.{Format, Spells}
use Rattle.mb_format.specs.Combinators.{number, between, both, pair, as_record, sized, sized_that, counted}
use Rattle.mb_model.specs.declared.limits.TheConstants.{NAME_LIMIT, VALUE_LIMIT, KEY_LIMIT}
use Rattle.mb_model.specs.declared.limits.TheConstants.{SECRET_LIMIT, SECRET_LIMIT_VERSION_1, REGION_VERSION}
use Rattle.mb_model.specs.declared.region.Secret.{Secret}
use Rattle.mb_model.specs.declared.region.RegionKey.{RegionKey}
use Rattle.mb_model.specs.declared.region.Region.{Region}
use Rattle.mb_model.specs.owners.Regions.{empty_region}
use Rattle.mb_model.specs.records.RootFormat.{region_key_format}

-- whether a byte may stand in a name: it is a printable character of ASCII, and no space
abbrev pub is_name_byte : ℕ → Bool
is_name_byte byte = nat_le 0x21 byte && nat_le byte 0x7E

abbrev pub is_name : List ℕ → Bool
is_name bytes = list_all is_name_byte bytes

-- a secret: its name and its value, each after its length, and the configuration number at which it was put
unfoldable pub secret_format : Format Secret
secret_format = as_record
    (pair (sized_that is_name (between w8 1 NAME_LIMIT)) (pair (sized (between w8 0 VALUE_LIMIT)) (number w32)))
    (λ (name, (value, born)). record { name = name; value = value; born = born })
    (λ secret. (secret.name, (secret.value, secret.born)))

-- a region without secrets has a key: an empty region has no record
abbrev pub least_keys : List Secret → ℕ
least_keys [] = 1
least_keys (secret ∷ secrets) = 0

unfoldable pub keys_format : ℕ → Format (List RegionKey)
keys_format least = counted (between w8 least KEY_LIMIT) region_key_format

-- how many secrets a record of this version has at most
abbrev pub most_secrets : ℕ → ℕ
most_secrets version = if version == 1 then SECRET_LIMIT_VERSION_1 else SECRET_LIMIT

unfoldable pub secrets_format : ℕ → Format (List Secret)
secrets_format most = counted (between w8 0 most) secret_format

-- what follows the version in a record: the region's secrets and its keys
unfoldable pub region_by : ℕ → Format Region
region_by version =
    as_record (both (secrets_format (most_secrets version)) (λ secrets. keys_format (least_keys secrets)))
    (λ (secrets, keys). record { secrets = secrets; keys = keys })
    (λ region. (region.secrets, region.keys))

-- The record of a region: its version, 1 or 2, and what follows it. A region of at most 16 secrets has a record of
-- either version.
unfoldable pub region_format : Format (ℕ × Region)
region_format = both (between w8 1 REGION_VERSION) region_by

-- bytes are a record of a region, in one of the versions
pub record IsRecordOf (bytes : List ℕ) (region : Region) : Type 0 where
  pub version : ℕ
  pub spelled : Spells region_format bytes (version, region)

-- bytes mean a region: the empty one if there are none, else the one whose record they are
abbrev pub SpellsRegion : List ℕ → Region → Type 0
SpellsRegion bytes region = ((bytes ≡ []) × (region ≡ empty_region)) ⊎ IsRecordOf bytes region

-- ---- what is written

-- a region can be written: it is empty, or has a record of the version that is written
abbrev pub CanBeWritten : Region → Type 0
CanBeWritten region = (region ≡ empty_region) ⊎ region_format.Allowed (REGION_VERSION, region)

-- what is written for a region: no bytes if it is empty, else its record of the version that is written
abbrev pub written_with : List Secret → List RegionKey → List ℕ
written_with [] [] = []
written_with secrets keys = region_format.spelling (REGION_VERSION, record { secrets = secrets; keys = keys })

-- The record that is written for a region. A record of version 1 stays until its region is next written: rewriting it
-- at a boot would cost a write, and one more argument about power losses.
abbrev pub written_region : Region → List ℕ
written_region region = written_with region.secrets region.keys
