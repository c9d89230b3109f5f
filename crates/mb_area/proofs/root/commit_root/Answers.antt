use Rattle.mb_area.proofs.Rooted.{committed_ok, committed_err}
use Rattle.mb_area.proofs.root.commit_root.Goals as goal

pub returns-in-Ok : goal.returns-in-Ok
returns-in-Ok g c =
    committed_ok c.args.root.now c.args.room.now c.store_root.new.room (g.B.Board.seen c.args.b.now) (g.B.Board.seen c.store_root.new.b) _ c.unsettled_by.result c.unsettled_by.ensures c.in-Ok.ensures

pub returns-in-Err : goal.returns-in-Err
returns-in-Err g c = committed_err c.args.root.now c.args.room.now c.store_root.new.room (g.B.Board.seen c.args.b.now) (g.B.Board.seen c.store_root.new.b) _ _ c.in-Err.ensures
