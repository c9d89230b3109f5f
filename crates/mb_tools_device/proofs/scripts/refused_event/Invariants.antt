use Rattle.mb_tools_device.proofs.RefusingLemmas.{IsUncutTo}
use Rattle.mb_tools_device.proofs.scripts.refused_event.Given as goal

abbrev pub invariant-loop-index : goal.invariant-loop-index
invariant-loop-index l = IsUncutTo l.events l.index
