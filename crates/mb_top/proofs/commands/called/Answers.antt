use Rattle.mb_top.specs.CommandTable.{commands}
use Rattle.mb_top.proofs.commands.called.Goals as goal

pub returns : goal.returns
unfolding commands
returns c = c.call_in.ensures
