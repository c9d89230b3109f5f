use Rattle.mb_appvm.proofs.Traced.{traces_are_true}
use Rattle.mb_appvm.proofs.laws.traces_are_true.Goals as goal

pub returns : goal.returns
returns c = traces_are_true
