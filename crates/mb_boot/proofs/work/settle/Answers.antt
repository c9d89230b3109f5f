use Rattle.std.proofs.Common.{arith, sym, subst}
use Rattle.std.proofs.lemmas.Result.{err_from_is_err_and}
use Rattle.mb_area.specs.Roots.{IsOnlyRoot}
use Rattle.mb_boot.specs.Settling.{Settles}
use Rattle.mb_boot.specs.Signers.{DeviceKeySigns}
use Rattle.mb_boot.proofs.Joined.{err_most, ran_then, settled_work, work_stopped}
use Rattle.mb_boot.proofs.Settled.{live_with, settled, spared_by_writes, spared_same}
use Rattle.mb_model_memory.proofs.HoldingLemmas.{keeps_then, contents_keep}
use Rattle.mb_boot.proofs.work.settle.Goals as goal

pub write_signed-requires : goal.write_signed-requires
write_signed-requires g c =
    live_with 4 _ (g.B.Board.seen c.args.b.now) (g.B.Board.seen c.apply_fates.new.b) c.args.u.root c.in_ok-w.ensures.ran.ran c.requires.up c.requires.live c.apply_fates.ensures.meaning c.apply_fates.ensures.root

pub finish_root-requires-clause-root : goal.finish_root-requires-clause-root
finish_root-requires-clause-root g c = subst (λ bbram. IsOnlyRoot bbram c.args.u.root) (sym c.write_signed.ensures.written.ran.bbram) c.apply_fates.ensures.root

pub returns-in_err-w-clause-work : goal.returns-in_err-w-clause-work
returns-in_err-w-clause-work g c =
    let first = g.B.Board.seen c.args.b.now in
    let applied = g.B.Board.seen c.apply_fates.new.b in
    let p = err_from_is_err_and c.from_residual.result c.from_residual.ensures.1 in
    rw p.1 (record {
      done = tt;
      meaning = c.apply_fates.ensures.meaning;
      spared = spared_same first.memory applied.memory c.apply_fates.ensures.ran.flash;
      ran = err_most 4 12 _ _ first applied (omega arith) c.in_err-w.ensures.ran.ran;
      cost = omega arith;
    })

pub returns-in_err-w-clause-trees : goal.returns-in_err-w-clause-trees
returns-in_err-w-clause-trees g c =
    let p = err_from_is_err_and c.from_residual.result c.from_residual.ensures.1 in
    rw p.1 (record { kept = λ signs. tt; held = λ holds. tt; again = λ has. omega arith })

pub returns-in_err-w-2-clause-work : goal.returns-in_err-w-2-clause-work
returns-in_err-w-2-clause-work g c =
    let first = g.B.Board.seen c.args.b.now in
    let applied = g.B.Board.seen c.apply_fates.new.b in
    let written = g.B.Board.seen c.write_signed.new.b in
    let p = err_from_is_err_and c.from_residual-in_err-w-2.result c.from_residual-in_err-w-2.ensures.1 in
    rw p.1 (record {
      done = tt;
      meaning = keeps_then first.memory applied.memory written.memory c.apply_fates.ensures.meaning
          (contents_keep applied.memory written.memory c.write_signed.ensures.written.ran.ran.sized c.write_signed.ensures.written.contents);
      spared = spared_by_writes first.memory applied.memory written.memory c.args.u.root c.requires.root c.apply_fates.ensures.ran.flash c.write_signed.ensures.written.agree;
      ran = err_most 10 12 _ _ first written (omega arith) (ran_then 4 6 _ _ first applied written c.in_ok-w.ensures.ran.ran c.in_err-w-2.ensures.written.ran.ran);
      cost = c.write_signed.ensures.cost;
    })

pub returns-in_err-w-2-clause-trees : goal.returns-in_err-w-2-clause-trees
returns-in_err-w-2-clause-trees g c =
    let p = err_from_is_err_and c.from_residual-in_err-w-2.result c.from_residual-in_err-w-2.ensures.1 in
    rw p.1 (record { kept = λ signs. tt; held = λ holds. tt; again = c.write_signed.ensures.trees.again })

pub returns-in_err-unwiped-clause-work : goal.returns-in_err-unwiped-clause-work
returns-in_err-unwiped-clause-work g c =
    let first = g.B.Board.seen c.args.b.now in
    let last = g.B.Board.seen c.finish_root.new.b in
    let p = err_from_is_err_and c.from_residual-in_err-unwiped.result c.from_residual-in_err-unwiped.ensures.1 in
    rw p.1 (work_stopped Settles Settles 12 12 _ _ first last _ _ (omega arith)
    (settled_work _ _ _ first (g.B.Board.seen c.apply_fates.new.b) (g.B.Board.seen c.write_signed.new.b) last c.args.u.root _ _ c.requires.root
    c.in_ok-w.ensures.done c.apply_fates.ensures.meaning c.in_ok-w.ensures.ran c.in_ok-w-2.ensures.written c.finish_root.ensures.either c.finish_root.ensures.ran.flash c.in_err-unwiped.ensures.ran.ran tt c.write_signed.ensures.cost))

pub returns-in_err-unwiped-clause-trees : goal.returns-in_err-unwiped-clause-trees
returns-in_err-unwiped-clause-trees g c =
    let p = err_from_is_err_and c.from_residual-in_err-unwiped.result c.from_residual-in_err-unwiped.ensures.1 in
    rw p.1 (record { kept = λ signs. tt; held = λ holds. tt; again = c.write_signed.ensures.trees.again })

pub returns-clause-work : goal.returns-clause-work
returns-clause-work g c =
    let first = g.B.Board.seen c.args.b.now in
    let applied = g.B.Board.seen c.apply_fates.new.b in
    let written = g.B.Board.seen c.write_signed.new.b in
    let last = g.B.Board.seen c.finish_root.new.b in
    settled_work _ _ _ first applied written last c.args.u.root _ _ c.requires.root c.in_ok-w.ensures.done c.apply_fates.ensures.meaning c.in_ok-w.ensures.ran c.in_ok-w-2.ensures.written
    c.finish_root.ensures.either c.finish_root.ensures.ran.flash c.in_ok-unwiped.ensures.ran.ran
    (settled first.memory applied.memory written.memory last.memory c.in_ok-w.ensures.done c.write_signed.ensures.written.contents c.in_ok-w-2.ensures.written.done c.in_ok-unwiped.ensures.done)
    c.write_signed.ensures.cost

pub returns-clause-trees : goal.returns-clause-trees
returns-clause-trees g c = record {
  kept = λ signs. c.in_ok-w-2.ensures.trees.kept (subst (λ flash. DeviceKeySigns flash c.args.u.root) (sym c.apply_fates.ensures.ran.flash) signs);
  held = c.in_ok-w-2.ensures.trees.held;
  again = c.write_signed.ensures.trees.again;
}
