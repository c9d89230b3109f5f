-- The numbers of the code that definitions cite. Is a limit of a policy another than the one that is believed?
use Rattle.std.specs.Prelude.{◌≡◌}
use Rattle.mb_policy.specs.declared.limits.TheConstants.{LINE_LIMIT, HASH_LIMIT, DEPTH_LIMIT}

-- limits of a policy
pub record PolicyNumbersAre : Type 0 where
  pub line_limit : LINE_LIMIT ≡ 256
  pub hash_limit : HASH_LIMIT ≡ 64
  pub depth_limit : DEPTH_LIMIT ≡ 32
