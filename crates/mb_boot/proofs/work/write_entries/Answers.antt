use Rattle.std.proofs.Common.{arith, inr}
use Rattle.std.proofs.lemmas.Result.{err_from_is_err_and}
use Rattle.mb_boot.specs.Settling.{AddsToLog, CompletesLog}
use Rattle.mb_boot.proofs.Joined.{beside_then, beside_stopped}
use Rattle.mb_boot.proofs.Settled.{bounded, live_with_writes, log_completed}
use Rattle.mb_boot.proofs.Signers.{device_kept, device_held}
use Rattle.mb_boot.proofs.work.write_entries.Goals as goal

pub read_header-requires-clause-area : goal.read_header-requires-clause-area
read_header-requires-clause-area g c = (bounded (g.B.Board.seen c.args.b.now).memory.bbram c.args.root.now c.requires.root).area

pub write_entry-requires-2-clause-root : goal.write_entry-requires-2-clause-root
write_entry-requires-2-clause-root g c =
    live_with_writes 2 _ (g.B.Board.seen c.args.b.now) (g.B.Board.seen c.write_entry.new.b) c.args.root.now c.in_ok-w.ensures.written.ran c.write_entry.ensures.written.contents c.requires.up c.requires.live c.requires.root

pub returns-in_err-w-clause-written : goal.returns-in_err-w-clause-written
returns-in_err-w-clause-written g c =
    let p = err_from_is_err_and c.from_residual.result c.from_residual.ensures.1 in
    rw p.1 (beside_stopped (AddsToLog 0) CompletesLog c.args.root.now.area 2 4 _ _ (g.B.Board.seen c.args.b.now) (g.B.Board.seen c.write_entry.new.b) (omega arith) c.in_err-w.ensures.written)

pub returns-in_err-w-clause-trees : goal.returns-in_err-w-clause-trees
returns-in_err-w-clause-trees g c =
    let p = err_from_is_err_and c.from_residual.result c.from_residual.ensures.1 in
    rw p.1 (record { kept = λ signs. tt; held = λ holds. tt; again = λ has. omega (arith, c.write_entry.ensures.signing.again has.first) })

pub returns-in_err-w-2-clause-written : goal.returns-in_err-w-2-clause-written
returns-in_err-w-2-clause-written g c =
    let first = g.B.Board.seen c.args.b.now in
    let last = g.B.Board.seen c.write_entry-2.new.b in
    let p = err_from_is_err_and c.from_residual-in_err-w-2.result c.from_residual-in_err-w-2.ensures.1 in
    rw p.1 (beside_stopped CompletesLog CompletesLog c.args.root.now.area 4 4 _ _ first last (omega arith)
    (beside_then (AddsToLog 0) (AddsToLog 1) CompletesLog c.args.root.now.area 2 2 _ _ first (g.B.Board.seen c.write_entry.new.b) last c.in_ok-w.ensures.written c.in_err-w-2.ensures.written tt))

pub returns-in_err-w-2-clause-trees : goal.returns-in_err-w-2-clause-trees
returns-in_err-w-2-clause-trees g c =
    let p = err_from_is_err_and c.from_residual-in_err-w-2.result c.from_residual-in_err-w-2.ensures.1 in
    rw p.1 (record {
      kept = λ signs. tt;
      held = λ holds. tt;
      again = λ has. omega (arith, c.write_entry.ensures.signing.again has.first, c.write_entry-2.ensures.signing.again (c.write_entry.ensures.signing.beside (inr has.first) _ has.second));
    })

pub returns-clause-written : goal.returns-clause-written
returns-clause-written g c =
    beside_then (AddsToLog 0) (AddsToLog 1) CompletesLog c.args.root.now.area 2 2 _ _ (g.B.Board.seen c.args.b.now) (g.B.Board.seen c.write_entry.new.b) (g.B.Board.seen c.write_entry-2.new.b)
    c.in_ok-w.ensures.written c.in_ok-w-2.ensures.written
    (log_completed (g.B.Board.seen c.args.b.now).memory (g.B.Board.seen c.write_entry.new.b).memory (g.B.Board.seen c.write_entry-2.new.b).memory c.write_entry.ensures.written.contents c.in_ok-w.ensures.written.done c.in_ok-w-2.ensures.written.done)

pub returns-clause-trees : goal.returns-clause-trees
returns-clause-trees g c = record {
  kept = λ signs. device_kept c.write_entry.new.bench c.write_entry-2.new.bench c.args.root.now signs.stays (c.write_entry.ensures.kept signs.header signs.holds signs.some) c.write_entry-2.ensures.signing.beside;
  held = λ holds. device_held c.args.bench.now c.write_entry.new.bench c.write_entry-2.new.bench c.args.root.now holds c.write_entry.ensures.signing.beside c.write_entry-2.ensures.signing.beside;
  again = λ has. omega (arith, c.write_entry.ensures.signing.again has.first, c.write_entry-2.ensures.signing.again (c.write_entry.ensures.signing.beside (inr has.first) _ has.second));
}
