use Rattle.mb_top.proofs.EndCounterProofs.{no_other_ends}
use Rattle.mb_top.proofs.counter_examples.end_counter_examples.Goals as goal

pub returns : goal.returns
returns c = no_other_ends
