use Rattle.std.proofs.Common.{arith, sym, subst}
use Rattle.std.proofs.lemmas.Result.{err_from_is_err_and}
use Rattle.mb_board.specs.Calls.{Seen}
use Rattle.mb_boot.specs.Booting.{IsFoundAs, Rests, Cleans}
use Rattle.mb_boot.specs.Settling.{IsLiveBoard}
use Rattle.mb_boot.proofs.Booted.{cleaned, quiet_over, quiet_then}
use Rattle.mb_boot.proofs.Joined.{still_up, work_from, work_then, work_stopped}
use Rattle.mb_boot.proofs.device.come_up.Goals as goal

pub bring_to_rest-requires-clause-live : goal.bring_to_rest-requires-clause-live
bring_to_rest-requires-clause-live g c = subst IsLiveBoard (sym c.look-looked.ensures.same) c.requires

pub bring_to_rest-requires-clause-looked : goal.bring_to_rest-requires-clause-looked
bring_to_rest-requires-clause-looked g c =
    subst (λ (seen : Seen). IsFoundAs c.look-looked.result seen.memory.bbram) (sym c.look-looked.ensures.same) (record { found = c.look-looked.ensures.looked })

pub wipe_regions-requires : goal.wipe_regions-requires
wipe_regions-requires g c =
    let live : IsLiveBoard (g.B.Board.seen c.look-looked.new.b) = subst IsLiveBoard (sym c.look-looked.ensures.same) c.requires in
    record { up = still_up 13 _ (g.B.Board.seen c.look-looked.new.b) (g.B.Board.seen c.bring_to_rest.new.b) c.in_ok-up.ensures.work.ran live.up }

pub returns-in_err-up-clause-work : goal.returns-in_err-up-clause-work
returns-in_err-up-clause-work g c =
    let looked = g.B.Board.seen c.look-looked.new.b in
    let rested = g.B.Board.seen c.bring_to_rest.new.b in
    let p = err_from_is_err_and c.from_residual.result c.from_residual.ensures.1 in
    rw p.1 (work_from Cleans 15 _ (g.B.Board.seen c.args.b.now) looked rested _ _ c.look-looked.ensures.same
    (work_stopped Rests Cleans 13 15 _ _ looked rested _ _ (omega arith) c.in_err-up.ensures.work))

pub returns-in_err-up-clause-quiet : goal.returns-in_err-up-clause-quiet
returns-in_err-up-clause-quiet g c =
    quiet_over (g.B.Board.seen c.args.b.now) (g.B.Board.seen c.look-looked.new.b) (g.B.Board.seen c.bring_to_rest.new.b) c.look-looked.ensures.same c.bring_to_rest.ensures.quiet

pub returns-in_err-up-2-clause-work : goal.returns-in_err-up-2-clause-work
returns-in_err-up-2-clause-work g c =
    let looked = g.B.Board.seen c.look-looked.new.b in
    let rested = g.B.Board.seen c.bring_to_rest.new.b in
    let last = g.B.Board.seen c.wipe_regions.new.b in
    let p = err_from_is_err_and c.from_residual-in_err-up-2.result c.from_residual-in_err-up-2.ensures.1 in
    rw p.1 (work_from Cleans 15 _ (g.B.Board.seen c.args.b.now) looked last _ _ c.look-looked.ensures.same
    (work_stopped Cleans Cleans 15 15 _ _ looked last _ _ (omega arith)
    (work_then Rests Cleans 13 2 _ _ looked rested last _ _ c.in_ok-up.ensures.work c.wipe_regions.ensures.contents c.wipe_regions.ensures.ran.flash c.in_err-up-2.ensures.ran.ran tt)))

pub returns-in_err-up-2-clause-quiet : goal.returns-in_err-up-2-clause-quiet
returns-in_err-up-2-clause-quiet g c =
    let first = g.B.Board.seen c.args.b.now in
    let rested = g.B.Board.seen c.bring_to_rest.new.b in
    let last = g.B.Board.seen c.wipe_regions.new.b in
    quiet_then first.memory rested.memory last.memory first.meter rested.meter last.meter
    (quiet_over first (g.B.Board.seen c.look-looked.new.b) rested c.look-looked.ensures.same c.bring_to_rest.ensures.quiet) c.wipe_regions.ensures.idle

pub returns-clause-work : goal.returns-clause-work
returns-clause-work g c =
    let looked = g.B.Board.seen c.look-looked.new.b in
    let rested = g.B.Board.seen c.bring_to_rest.new.b in
    let last = g.B.Board.seen c.wipe_regions.new.b in
    work_from Cleans 15 _ (g.B.Board.seen c.args.b.now) looked last _ _ c.look-looked.ensures.same
    (work_then Rests Cleans 13 2 _ _ looked rested last _ _ c.in_ok-up.ensures.work c.wipe_regions.ensures.contents c.wipe_regions.ensures.ran.flash c.in_ok-up-2.ensures.ran.ran
    (cleaned looked.memory rested.memory last.memory c.in_ok-up.ensures.work.done c.wipe_regions.ensures.contents c.wipe_regions.ensures.root c.in_ok-up-2.ensures.wiped c.wipe_regions.ensures.ran.ran.sized))

pub returns-clause-quiet : goal.returns-clause-quiet
returns-clause-quiet g c =
    let first = g.B.Board.seen c.args.b.now in
    let rested = g.B.Board.seen c.bring_to_rest.new.b in
    let last = g.B.Board.seen c.wipe_regions.new.b in
    quiet_then first.memory rested.memory last.memory first.meter rested.meter last.meter
    (quiet_over first (g.B.Board.seen c.look-looked.new.b) rested c.look-looked.ensures.same c.bring_to_rest.ensures.quiet) c.wipe_regions.ensures.idle
