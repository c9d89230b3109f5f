use Rattle.std.proofs.Common.{◌≡◌, take}
use Rattle.mb_tools_device.specs.RehearseCommand.{veiled_text}
use Rattle.mb_tools_device.proofs.rehearse.write_veiled.Given as goal

abbrev pub invariant-loop-one : goal.invariant-loop-one
invariant-loop-one l = l.text.items ≡ veiled_text (take l.one-index l.answered)
