use Rattle.mb_region.proofs.Placed.{fate_placed_ok, fate_placed_err}
use Rattle.mb_region.proofs.calls.apply_fate.Goals as goal

pub returns-in-Ok : goal.returns-in-Ok
returns-in-Ok g c = fate_placed_ok c.number.result g.L.Compartment.place c.args.fate.now c.args.room.now c.finish_fate.new.room (g.B.Board.seen c.args.b.now) (g.B.Board.seen c.finish_fate.new.b) _ _ c.number.ensures c.in-Ok.ensures

pub returns-in-Err : goal.returns-in-Err
returns-in-Err g c = fate_placed_err c.number.result g.L.Compartment.place c.args.fate.now c.args.room.now c.finish_fate.new.room (g.B.Board.seen c.args.b.now) (g.B.Board.seen c.finish_fate.new.b) _ _ c.number.ensures c.in-Err.ensures
