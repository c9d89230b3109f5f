use Rattle.mb_policy.proofs.Clearness.{policies_clear}
use Rattle.mb_tools_policy.proofs.laws.inputs_are_clear.Goals as goal

pub returns : goal.returns
returns c = λ name bytes value place are is faulty. policies_clear.never_both bytes value faulty.0 is faulty.2
