-- The number of the code that a workload is bounded by. Is it another than the one that is believed?
use Rattle.std.specs.Prelude.{◌≡◌}
use Rattle.mb_generate.specs.declared.limits.TheConstants.{ROUND_LIMIT}

-- the most rounds of a workload
pub record WorkloadNumbersAre : Type 0 where
  pub round_limit : ROUND_LIMIT ≡ 24
