use Rattle.std.proofs.Common.{arith}
use Rattle.std.proofs.lemmas.Result.{err_from_is_err_and}
use Rattle.mb_boot.specs.Booting.{Rests}
use Rattle.mb_boot.specs.Settling.{Settles}
use Rattle.mb_boot.proofs.Booted.{settled_rests}
use Rattle.mb_boot.proofs.Joined.{still_up, work_then, work_stopped}
use Rattle.mb_boot.proofs.device.settle_and_wipe.Goals as goal

pub wipe_root-requires : goal.wipe_root-requires
wipe_root-requires g c = record { up = still_up 12 _ (g.B.Board.seen c.args.b.now) (g.B.Board.seen c.settle.new.b) c.in_ok-unwiped.ensures.work.ran c.requires.up }

pub returns-in_err-unwiped : goal.returns-in_err-unwiped
returns-in_err-unwiped g c =
    let p = err_from_is_err_and c.from_residual.result c.from_residual.ensures.1 in
    rw p.1 (work_stopped Settles Rests 12 13 _ _ (g.B.Board.seen c.args.b.now) (g.B.Board.seen c.settle.new.b) _ _ (omega arith) c.in_err-unwiped.ensures.work)

pub returns-in_err-up : goal.returns-in_err-up
returns-in_err-up g c =
    let first = g.B.Board.seen c.args.b.now in
    let wiped = g.B.Board.seen c.wipe_root.new.b in
    let p = err_from_is_err_and c.from_residual-in_err-up.result c.from_residual-in_err-up.ensures.1 in
    rw p.1 (work_stopped Rests Rests 13 13 _ _ first wiped _ _ (omega arith)
    (work_then Settles Rests 12 1 _ _ first (g.B.Board.seen c.settle.new.b) wiped _ _ c.in_ok-unwiped.ensures.work c.wipe_root.ensures.contents c.wipe_root.ensures.ran.flash c.in_err-up.ensures.ran.ran tt))

pub returns : goal.returns
returns g c =
    let first = g.B.Board.seen c.args.b.now in
    let settled = g.B.Board.seen c.settle.new.b in
    let wiped = g.B.Board.seen c.wipe_root.new.b in
    work_then Settles Rests 12 1 _ _ first settled wiped _ _ c.in_ok-unwiped.ensures.work c.wipe_root.ensures.contents c.wipe_root.ensures.ran.flash c.in_ok-up.ensures.ran.ran
    (settled_rests first.memory settled.memory wiped.memory c.in_ok-unwiped.ensures.work.done c.wipe_root.ensures.contents c.in_ok-up.ensures.blank)
