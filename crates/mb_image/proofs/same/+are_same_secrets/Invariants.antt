use Rattle.std.proofs.Common.{length}
use Rattle.mb_image.proofs.same.+are_same_secrets.Given as goal

abbrev pub decreases-are_same_secrets : goal.decreases-are_same_secrets
decreases-are_same_secrets l = length l.ones.now
