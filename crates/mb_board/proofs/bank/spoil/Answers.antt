use Rattle.std.proofs.Common.{◌∙◌}
use Rattle.mb_board.proofs.Fillings.{put-torn_by}
use Rattle.mb_board.proofs.bank.spoil.Goals as goal

pub returns : goal.returns
returns c = c.store_filling.ensures ∙ put-torn_by c.args.tear.now c.args.at c.args.count _ c.args.memory.now.items c.min-kept.ensures c.requires.within
