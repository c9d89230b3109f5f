use Rattle.mb_tools_device.proofs.RefusingLemmas.{uncut_scripts_are_clear}
use Rattle.mb_tools_device.proofs.laws.uncut_scripts_are_clear.Goals as goal

pub returns : goal.returns
returns c = uncut_scripts_are_clear
