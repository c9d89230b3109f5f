use Rattle.mb_device.proofs.TreeCounterProofs.{no_tree_forgotten}
use Rattle.mb_device.proofs.counter_examples.tree_counter_examples.Goals as goal

pub returns : goal.returns
returns c = no_tree_forgotten
