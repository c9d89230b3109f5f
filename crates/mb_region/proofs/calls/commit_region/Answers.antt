use Rattle.mb_region.proofs.Placed.{region_placed_ok, region_placed_err}
use Rattle.mb_region.proofs.calls.commit_region.Goals as goal

pub returns-in-Ok : goal.returns-in-Ok
returns-in-Ok g c = region_placed_ok c.number.result g.L.Compartment.place c.args.region.now c.args.room.now c.store_region.new.room (g.B.Board.seen c.args.b.now) (g.B.Board.seen c.store_region.new.b) _ _ c.number.ensures c.in-Ok.ensures

pub returns-in-Err : goal.returns-in-Err
returns-in-Err g c = region_placed_err c.number.result g.L.Compartment.place c.args.region.now c.args.room.now c.store_region.new.room (g.B.Board.seen c.args.b.now) (g.B.Board.seen c.store_region.new.b) _ _ c.number.ensures c.in-Err.ensures
