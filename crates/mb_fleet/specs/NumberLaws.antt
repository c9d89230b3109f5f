-- The numbers of the code that definitions cite. Is a limit of a register another than the one that is believed?
use Rattle.std.specs.Prelude.{◌≡◌}
use Rattle.mb_fleet.specs.declared.limits.TheConstants.{DEVICE_LIMIT, TEXT_LIMIT}

-- limits of a register and of what it answers
pub record RegisterNumbersAre : Type 0 where
  pub device_limit : DEVICE_LIMIT ≡ 512
  pub text_limit : TEXT_LIMIT ≡ 268435456
