use Rattle.mb_tools_device.proofs.CutCounterProofs.{no_such_cuts}
use Rattle.mb_tools_device.proofs.counter_examples.cut_counter_examples.Goals as goal

pub returns : goal.returns
returns c = no_such_cuts
