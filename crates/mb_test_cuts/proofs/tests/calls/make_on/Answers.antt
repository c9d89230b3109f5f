use Rattle.mb_test_cuts.proofs.Staging.{ready}
use Rattle.mb_test_cuts.proofs.tests.calls.make_on.Goals as goal

pub make-requires-clause-ready : goal.make-requires-clause-ready
make-requires-clause-ready g c = ready _ _ _ c.requires.live c.in_ok-board.ensures
