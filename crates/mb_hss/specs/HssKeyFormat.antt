-- How the public key of HSS is spelled (RFC 8554, section 6.1). Which key do these 60 bytes hold?
use Rattle.std.specs.Int.{w32}
use Rattle.mb_format.specs.Format.{Format}
use Rattle.mb_format.specs.Combinators.{between, pair, as_record}
use Rattle.mb_model.specs.records.KeyFormat.{public_key_format}
use Rattle.mb_hss.specs.declared.limits.TheConstants.{LEVEL_LIMIT}
use Rattle.mb_hss.specs.declared.key.HssKey.{HssKey}

-- the number of levels, and the public key of the first level
unfoldable pub hss_key_format : Format HssKey
hss_key_format = as_record (pair (between w32 1 LEVEL_LIMIT) public_key_format)
    (λ (levels, top). record { levels = levels; top = top })
    (λ key. (key.levels, key.top))
