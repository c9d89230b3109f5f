-- The events answered so far were obeyed.
use Rattle.std.proofs.Common.{take}
use Rattle.mb_tools_device.specs.RehearseCommand.{AllObeyed}
use Rattle.mb_tools_device.proofs.rehearse.first_unobeyed.Given as goal

abbrev pub invariant-loop-index : goal.invariant-loop-index
invariant-loop-index l = AllObeyed (take l.index l.answered)
