-- The bounds that every record with a spelling keeps. Do its numbers, lengths and counts fit into their fields?
use Rattle.std.specs.Prelude.{◌<◌, ◌≤◌, All, length}
use Rattle.mb_model.specs.declared.limits.TheConstants.{KEY_LIMIT, SECRET_LIMIT}
use Rattle.mb_model.specs.declared.region.Region.{Region}
use Rattle.mb_model.specs.declared.region.RegionKey.{RegionKey}
use Rattle.mb_model.specs.declared.region.Secret.{Secret}

-- the uses of a key fit into a byte
abbrev pub HasByteUses : RegionKey → Type 0
HasByteUses key = key.uses < 256

-- the name and the value of a secret have at most 255 bytes
pub record SecretFits (secret : Secret) : Type 0 where
  pub name : length secret.name < 256
  pub value : length secret.value < 256

pub record RegionFits (region : Region) : Type 0 where
  pub secrets : length region.secrets ≤ SECRET_LIMIT
  pub each_secret : All SecretFits region.secrets
  pub keys : length region.keys ≤ KEY_LIMIT
  pub each_key : All HasByteUses region.keys
