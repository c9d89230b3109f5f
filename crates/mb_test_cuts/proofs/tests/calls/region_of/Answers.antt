use Rattle.std.proofs.Common.{inr}
use Rattle.mb_model.proofs.RegionWriting.{later_version}
use Rattle.mb_test_cuts.proofs.tests.calls.region_of.Goals as goal

pub returns-in-Ok : goal.returns-in-Ok
returns-in-Ok c = inr (later_version c.in-Ok.ensures.version c.in-Ok.region c.in-Ok.ensures.spelled.allowed)
