use Rattle.std.proofs.Common.{true≢false, sym}
use Rattle.mb_image.proofs.RegionSteps.{one_differs}
use Rattle.mb_image.proofs.regions.are_alive.Goals as goal

pub returns-then-not-is_same-clause-alive : goal.returns-then-not-is_same-clause-alive
returns-then-not-is_same-clause-alive g c = (
  (λ on. absurd (true≢false (sym on))),
  (λ are. absurd (one_differs c.args.keys.now c.args.alive.now c.loop-at.at _ _ c.is_same.result c.loop-at-test.true c.if-keys-alive.false c.is_same.ensures.same c.if-not-is_same.true are)),
)
