use Rattle.mb_fleet.proofs.Indexing.{knows_listing}
use Rattle.mb_fleet.proofs.index.CodeIndex.change.Goals as goal

pub put-requires-2 : goal.put-requires-2
put-requires-2 c = knows_listing c.args.self.now c.put.new.self c.args.change.joined c.put.ensures.known c.requires.1
