use Rattle.mb_policy.proofs.Clearness.{judgements_clear}
use Rattle.mb_policy.proofs.laws.judgements_are_clear.Goals as goal

pub returns : goal.returns
returns c = judgements_clear
