use Rattle.mb_image.proofs.RegionSteps.{IsLast}
use Rattle.mb_image.proofs.regions.last_loss.Given as goal

abbrev pub invariant-loop-signed : goal.invariant-loop-signed
invariant-loop-signed l = IsLast l.layer l.log l.signed-index l.last
