use Rattle.std.proofs.Common.{arith}
use Rattle.std.proofs.lemmas.Result.{err_from_is_err_and}
use Rattle.mb_boot.specs.Booting.{Rests, Cleans}
use Rattle.mb_boot.specs.Settling.{Settles}
use Rattle.mb_boot.proofs.Booted.{settled_rests, cleaned}
use Rattle.mb_boot.proofs.Joined.{still_up, ran_then, work_then, work_stopped}
use Rattle.mb_boot.proofs.device.finish_order.Goals as goal

pub wipe_root-requires : goal.wipe_root-requires
wipe_root-requires g c = record { up = still_up 12 _ (g.B.Board.seen c.args.b.now) (g.B.Board.seen c.settle.new.b) c.in_ok-unwiped.ensures.work.ran c.requires.up }

pub wipe_regions-requires : goal.wipe_regions-requires
wipe_regions-requires g c =
    let first = g.B.Board.seen c.args.b.now in
    let settled = g.B.Board.seen c.settle.new.b in
    let wiped = g.B.Board.seen c.wipe_root.new.b in
    record { up = still_up 13 _ first wiped (ran_then 12 1 _ _ first settled wiped c.in_ok-unwiped.ensures.work.ran c.in_ok-up.ensures.ran.ran) c.requires.up }

pub returns-in_err-unwiped-clause-work : goal.returns-in_err-unwiped-clause-work
returns-in_err-unwiped-clause-work g c =
    let p = err_from_is_err_and c.from_residual.result c.from_residual.ensures.1 in
    rw p.1 (work_stopped Settles Cleans 12 15 _ _ (g.B.Board.seen c.args.b.now) (g.B.Board.seen c.settle.new.b) _ _ (omega arith) c.in_err-unwiped.ensures.work)

pub returns-in_err-unwiped-clause-trees : goal.returns-in_err-unwiped-clause-trees
returns-in_err-unwiped-clause-trees g c =
    let p = err_from_is_err_and c.from_residual.result c.from_residual.ensures.1 in
    rw p.1 (record { kept = λ signs. tt; held = λ holds. tt; again = c.settle.ensures.trees.again })

pub returns-in_err-up-clause-work : goal.returns-in_err-up-clause-work
returns-in_err-up-clause-work g c =
    let first = g.B.Board.seen c.args.b.now in
    let wiped = g.B.Board.seen c.wipe_root.new.b in
    let p = err_from_is_err_and c.from_residual-in_err-up.result c.from_residual-in_err-up.ensures.1 in
    rw p.1 (work_stopped Rests Cleans 13 15 _ _ first wiped _ _ (omega arith)
    (work_then Settles Rests 12 1 _ _ first (g.B.Board.seen c.settle.new.b) wiped _ _ c.in_ok-unwiped.ensures.work c.wipe_root.ensures.contents c.wipe_root.ensures.ran.flash c.in_err-up.ensures.ran.ran tt))

pub returns-in_err-up-clause-trees : goal.returns-in_err-up-clause-trees
returns-in_err-up-clause-trees g c =
    let p = err_from_is_err_and c.from_residual-in_err-up.result c.from_residual-in_err-up.ensures.1 in
    rw p.1 (record { kept = λ signs. tt; held = λ holds. tt; again = c.settle.ensures.trees.again })

pub returns-in_err-up-2-clause-work : goal.returns-in_err-up-2-clause-work
returns-in_err-up-2-clause-work g c =
    let first = g.B.Board.seen c.args.b.now in
    let settled = g.B.Board.seen c.settle.new.b in
    let wiped = g.B.Board.seen c.wipe_root.new.b in
    let last = g.B.Board.seen c.wipe_regions.new.b in
    let rests = settled_rests first.memory settled.memory wiped.memory c.in_ok-unwiped.ensures.work.done c.wipe_root.ensures.contents c.in_ok-up.ensures.blank in
    let p = err_from_is_err_and c.from_residual-in_err-up-2.result c.from_residual-in_err-up-2.ensures.1 in
    rw p.1 (work_stopped Cleans Cleans 15 15 _ _ first last _ _ (omega arith)
    (work_then Rests Cleans 13 2 _ _ first wiped last _ _
    (work_then Settles Rests 12 1 _ _ first settled wiped _ _ c.in_ok-unwiped.ensures.work c.wipe_root.ensures.contents c.wipe_root.ensures.ran.flash c.in_ok-up.ensures.ran.ran rests)
    c.wipe_regions.ensures.contents c.wipe_regions.ensures.ran.flash c.in_err-up-2.ensures.ran.ran tt))

pub returns-in_err-up-2-clause-trees : goal.returns-in_err-up-2-clause-trees
returns-in_err-up-2-clause-trees g c =
    let p = err_from_is_err_and c.from_residual-in_err-up-2.result c.from_residual-in_err-up-2.ensures.1 in
    rw p.1 (record { kept = λ signs. tt; held = λ holds. tt; again = c.settle.ensures.trees.again })

pub returns-clause-work : goal.returns-clause-work
returns-clause-work g c =
    let first = g.B.Board.seen c.args.b.now in
    let settled = g.B.Board.seen c.settle.new.b in
    let wiped = g.B.Board.seen c.wipe_root.new.b in
    let last = g.B.Board.seen c.wipe_regions.new.b in
    let rests = settled_rests first.memory settled.memory wiped.memory c.in_ok-unwiped.ensures.work.done c.wipe_root.ensures.contents c.in_ok-up.ensures.blank in
    work_then Rests Cleans 13 2 _ _ first wiped last _ _
    (work_then Settles Rests 12 1 _ _ first settled wiped _ _ c.in_ok-unwiped.ensures.work c.wipe_root.ensures.contents c.wipe_root.ensures.ran.flash c.in_ok-up.ensures.ran.ran rests)
    c.wipe_regions.ensures.contents c.wipe_regions.ensures.ran.flash c.in_ok-up-2.ensures.ran.ran
    (cleaned first.memory wiped.memory last.memory rests c.wipe_regions.ensures.contents c.wipe_regions.ensures.root c.in_ok-up-2.ensures.wiped c.wipe_regions.ensures.ran.ran.sized)

pub returns-clause-trees : goal.returns-clause-trees
returns-clause-trees g c = record { kept = c.in_ok-unwiped.ensures.trees.kept; held = c.in_ok-unwiped.ensures.trees.held; again = c.settle.ensures.trees.again }
