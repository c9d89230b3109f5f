use Rattle.mb_area.proofs.Published.{public_ok, public_err}
use Rattle.mb_area.proofs.public.write_public.Goals as goal

pub returns-in-Ok : goal.returns-in-Ok
returns-in-Ok g c = public_ok c.args.area c.args.room.now _ _ _ _ _ c.in-Ok.ensures

pub returns-in-Err : goal.returns-in-Err
returns-in-Err g c = public_err c.args.area c.args.room.now _ _ _ _ _ c.in-Err.ensures
