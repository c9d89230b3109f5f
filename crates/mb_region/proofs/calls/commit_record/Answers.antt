use Rattle.mb_region.proofs.Placed.{record_placed_ok, record_placed_err}
use Rattle.mb_region.proofs.calls.commit_record.Goals as goal

pub returns-in-Ok : goal.returns-in-Ok
returns-in-Ok g c = record_placed_ok c.number.result g.L.Compartment.place c.args.bytes.now c.args.area.now c.replace.new.area (g.B.Board.seen c.args.b.now) (g.B.Board.seen c.replace.new.b) _ _ c.number.ensures c.in-Ok.ensures

pub returns-in-Err : goal.returns-in-Err
returns-in-Err g c = record_placed_err c.number.result g.L.Compartment.place c.args.bytes.now c.args.area.now c.replace.new.area (g.B.Board.seen c.args.b.now) (g.B.Board.seen c.replace.new.b) _ _ c.number.ensures c.in-Err.ensures
