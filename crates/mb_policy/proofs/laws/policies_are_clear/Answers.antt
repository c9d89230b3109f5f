use Rattle.mb_policy.proofs.Clearness.{policies_clear}
use Rattle.mb_policy.proofs.laws.policies_are_clear.Goals as goal

pub returns : goal.returns
returns c = policies_clear
