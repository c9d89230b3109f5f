use Rattle.mb_board.proofs.Fillings.{leaves_what_it_keeps}
use Rattle.mb_board.proofs.fuse.Cut.leaves_what_it_keeps.Goals as goal

pub returns : goal.returns
returns c = leaves_what_it_keeps c.args.self.now
