use Rattle.mb_region.proofs.Placed.{wiped_ok, wiped_err}
use Rattle.mb_region.proofs.calls.wipe_region.Goals as goal

pub returns-in-Ok : goal.returns-in-Ok
returns-in-Ok g c = wiped_ok c.number.result g.L.Compartment.place (g.B.Board.seen c.args.b.now) (g.B.Board.seen c.wipe_other.new.b) _ _ c.number.ensures g.met.L.Named.named c.in-Ok.ensures

pub returns-in-Err : goal.returns-in-Err
returns-in-Err g c = wiped_err c.number.result g.L.Compartment.place (g.B.Board.seen c.args.b.now) (g.B.Board.seen c.wipe_other.new.b) _ _ c.number.ensures g.met.L.Named.named c.in-Err.ensures
