-- The number of the code that definitions cite. Is the limit of levels another than the one that is believed?
use Rattle.std.specs.Prelude.{◌≡◌}
use Rattle.mb_hss.specs.declared.limits.TheConstants.{LEVEL_LIMIT}

-- the most levels of an HSS key
pub record HssNumbersAre : Type 0 where
  pub level_limit : LEVEL_LIMIT ≡ 8
