use Rattle.std.proofs.Common.{sym, subst}
use Rattle.mb_model.specs.records.RootFormat.{root_format}
use Rattle.mb_area.proofs.Rooted.{small_area, settled_allowed, finished_ok, finished_err}
use Rattle.mb_area.proofs.root.finish_root.Goals as goal

pub settled_root-requires : goal.settled_root-requires
settled_root-requires g c = small_area (g.B.Board.seen c.args.b.now).memory.bbram c.args.root.now c.requires.root

pub store_root-requires-clause-allowed : goal.store_root-requires-clause-allowed
store_root-requires-clause-allowed g c = subst root_format.Allowed (sym c.settled_root.ensures) (settled_allowed c.args.root.now c.requires.root.holds.holds.spelled.allowed)

pub returns-in-Ok : goal.returns-in-Ok
returns-in-Ok g c =
    finished_ok c.args.root.now c.settled_root.result c.args.room.now c.store_root.new.room (g.B.Board.seen c.args.b.now) (g.B.Board.seen c.store_root.new.b) _ _ c.requires.root c.settled_root.ensures c.in-Ok.ensures

pub returns-in-Err : goal.returns-in-Err
returns-in-Err g c =
    finished_err c.args.root.now c.settled_root.result c.args.room.now c.store_root.new.room (g.B.Board.seen c.args.b.now) (g.B.Board.seen c.store_root.new.b) _ _ c.requires.root c.settled_root.ensures c.in-Err.ensures
