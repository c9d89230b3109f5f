use Rattle.std.proofs.Common.{arith}
use Rattle.std.proofs.lemmas.Result.{err_from_is_err_and}
use Rattle.mb_boot.specs.Settling.{CompletesLog, CountsLog, SignsRecord}
use Rattle.mb_boot.proofs.Joined.{beside_then, beside_stopped}
use Rattle.mb_boot.proofs.Settled.{live_with_writes, record_signed}
use Rattle.mb_boot.proofs.work.write_signed.Goals as goal

pub write_settled-requires-clause-root : goal.write_settled-requires-clause-root
write_settled-requires-clause-root g c =
    live_with_writes 4 _ (g.B.Board.seen c.args.b.now) (g.B.Board.seen c.write_entries.new.b) c.args.root.now c.in_ok-w.ensures.written.ran c.write_entries.ensures.written.contents c.requires.up c.requires.live c.requires.root

pub returns-in_err-w-clause-written : goal.returns-in_err-w-clause-written
returns-in_err-w-clause-written g c =
    let p = err_from_is_err_and c.from_residual.result c.from_residual.ensures.1 in
    rw p.1 (beside_stopped CompletesLog SignsRecord c.args.root.now.area 4 6 _ _ (g.B.Board.seen c.args.b.now) (g.B.Board.seen c.write_entries.new.b) (omega arith) c.in_err-w.ensures.written)

pub returns-in_err-w-clause-trees : goal.returns-in_err-w-clause-trees
returns-in_err-w-clause-trees g c =
    let p = err_from_is_err_and c.from_residual.result c.from_residual.ensures.1 in
    rw p.1 (record { kept = λ signs. tt; held = λ holds. tt; again = c.write_entries.ensures.trees.again })

pub returns-in_err-w-2-clause-written : goal.returns-in_err-w-2-clause-written
returns-in_err-w-2-clause-written g c =
    let first = g.B.Board.seen c.args.b.now in
    let last = g.B.Board.seen c.write_settled.new.b in
    let p = err_from_is_err_and c.from_residual-in_err-w-2.result c.from_residual-in_err-w-2.ensures.1 in
    rw p.1 (beside_stopped SignsRecord SignsRecord c.args.root.now.area 6 6 _ _ first last (omega arith)
    (beside_then CompletesLog CountsLog SignsRecord c.args.root.now.area 4 2 _ _ first (g.B.Board.seen c.write_entries.new.b) last c.in_ok-w.ensures.written c.in_err-w-2.ensures tt))

pub returns-in_err-w-2-clause-trees : goal.returns-in_err-w-2-clause-trees
returns-in_err-w-2-clause-trees g c =
    let p = err_from_is_err_and c.from_residual-in_err-w-2.result c.from_residual-in_err-w-2.ensures.1 in
    rw p.1 (record { kept = λ signs. tt; held = λ holds. tt; again = c.write_entries.ensures.trees.again })

pub returns-clause-written : goal.returns-clause-written
returns-clause-written g c =
    beside_then CompletesLog CountsLog SignsRecord c.args.root.now.area 4 2 _ _ (g.B.Board.seen c.args.b.now) (g.B.Board.seen c.write_entries.new.b) (g.B.Board.seen c.write_settled.new.b)
    c.in_ok-w.ensures.written c.in_ok-w-2.ensures
    (record_signed (g.B.Board.seen c.args.b.now).memory (g.B.Board.seen c.write_entries.new.b).memory (g.B.Board.seen c.write_settled.new.b).memory c.write_entries.ensures.written.contents c.in_ok-w.ensures.written.done c.in_ok-w-2.ensures.done)

pub returns-clause-trees : goal.returns-clause-trees
returns-clause-trees g c = record { kept = c.in_ok-w.ensures.trees.kept; held = c.in_ok-w.ensures.trees.held; again = c.write_entries.ensures.trees.again }
