use Rattle.mb_appvm.proofs.Clear.{assemblies_are_clear}
use Rattle.mb_appvm.proofs.laws.assemblies_are_clear.Goals as goal

pub returns : goal.returns
returns c = assemblies_are_clear
