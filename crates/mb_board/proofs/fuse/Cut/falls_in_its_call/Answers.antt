use Rattle.mb_board.proofs.Falling.{falls_in_its_call}
use Rattle.mb_board.proofs.fuse.Cut.falls_in_its_call.Goals as goal

pub returns : goal.returns
returns c = falls_in_its_call c.args.self.now
