use Rattle.mb_fleet.proofs.Indexing.{put_lists, room_knows}
use Rattle.mb_fleet.proofs.index.CodeIndex.put.Goals as goal

pub returns-in-Ok-clause-lists : goal.returns-in-Ok-clause-lists
returns-in-Ok-clause-lists c = rw c.in-Some.is (put_lists c.args.self.now.serials c.insert.new.self c.in-Some.listing.hash c.in-Some.listing.serials c.in-Ok.ensures.updates)

pub returns-in-Ok-clause-known : goal.returns-in-Ok-clause-known
returns-in-Ok-clause-known c = room_knows c.args.self.now.serials c.insert.new.self c.in-Some.listing.hash c.in-Some.listing.serials c.in-Ok.ensures.updates
