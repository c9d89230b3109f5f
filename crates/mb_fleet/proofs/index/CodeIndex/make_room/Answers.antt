use Rattle.std.proofs.Common.{sym, ◌∙◌}
use Rattle.mb_fleet.proofs.Indexing.{room_same, room_knows}
use Rattle.mb_fleet.proofs.index.CodeIndex.make_room.Goals as goal

pub returns-in_ok-insert-clause-same : goal.returns-in_ok-insert-clause-same
returns-in_ok-insert-clause-same c = room_same c.args.self.now.serials c.insert.new.self c.args.hash.now c.new.result c.in_ok-insert.ensures.updates
    (sym c.contains_key.ensures ∙ c.if-not-contains_key.true) c.new.ensures

pub returns-in_ok-insert-clause-known : goal.returns-in_ok-insert-clause-known
returns-in_ok-insert-clause-known c = room_knows c.args.self.now.serials c.insert.new.self c.args.hash.now c.new.result c.in_ok-insert.ensures.updates
