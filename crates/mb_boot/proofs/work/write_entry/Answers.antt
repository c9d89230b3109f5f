use Rattle.std.proofs.Common.{Option, ℕ, refl, subst, arith}
use Rattle.std.proofs.lemmas.Result.{err_from_is_err_and}
use Rattle.mb_boot.specs.Completions.{SignsTextAt}
use Rattle.mb_model_memory.proofs.FlashFrames.{agree_same}
use Rattle.mb_boot.proofs.Joined.{err_most, ran_not}
use Rattle.mb_boot.proofs.Settled.{bounded, header_is_read, can_be_written, entry_added, none_added}
use Rattle.mb_boot.proofs.work.write_entry.Goals as goal

pub sign_next-requires-clause-uses : goal.sign_next-requires-clause-uses
sign_next-requires-clause-uses g c =
    let is = bounded (g.B.Board.seen c.args.b.now).memory.bbram c.args.root.now c.requires.root.root in
    record { device = is.uses; outgoing = is.outgoing }

pub sign_next-requires-clause-header : goal.sign_next-requires-clause-header
sign_next-requires-clause-header g c = header_is_read (g.B.Board.seen c.args.b.now).memory c.args.root.now c.args.room.now.header.items c.requires.root.live c.requires.root.root c.requires.header

pub returns-in_default-clause-written : goal.returns-in_default-clause-written
returns-in_default-clause-written g c = record {
  done = none_added (g.B.Board.seen c.args.b.now).memory c.args.root.now c.args.place c.args.room.now.header.items c.sign_next.new.room.log.items c.requires.place c.requires.root.root c.requires.header
      (subst (λ (position : Option ℕ). SignsTextAt c.args.root.now c.args.place c.args.room.now.header.items position c.sign_next.new.room.log.items) c.in_default.is c.sign_next.ensures.signed);
  contents = record { kept = λ contents holds. holds };
  agree = agree_same (g.B.Board.seen c.args.b.now).memory.flash c.args.root.now.area;
  ran = record { ran = ran_not 2 _ (g.B.Board.seen c.args.b.now) c.requires.root.up; bbram = refl };
}

pub write_log-requires-clause-position : goal.write_log-requires-clause-position
write_log-requires-clause-position g c =
    let can = can_be_written (g.B.Board.seen c.args.b.now).memory c.args.root.now c.args.place c.in-Some.position c.args.room.now.header.items c.sign_next.new.room.log.items c.requires.place c.requires.root.live c.requires.root.root c.requires.header
    (subst (λ (position : Option ℕ). SignsTextAt c.args.root.now c.args.place c.args.room.now.header.items position c.sign_next.new.room.log.items) c.in-Some.is c.sign_next.ensures.signed)
    in
    record { within = can.within; uncounted = can.uncounted }

pub write_log-requires-clause-log : goal.write_log-requires-clause-log
write_log-requires-clause-log g c =
    let can = can_be_written (g.B.Board.seen c.args.b.now).memory c.args.root.now c.args.place c.in-Some.position c.args.room.now.header.items c.sign_next.new.room.log.items c.requires.place c.requires.root.live c.requires.root.root c.requires.header
    (subst (λ (position : Option ℕ). SignsTextAt c.args.root.now c.args.place c.args.room.now.header.items position c.sign_next.new.room.log.items) c.in-Some.is c.sign_next.ensures.signed)
    in
    (can.some, can.short)

pub returns-in_err-w-clause-written : goal.returns-in_err-w-clause-written
returns-in_err-w-clause-written g c =
    let p = err_from_is_err_and c.from_residual.result c.from_residual.ensures.1 in
    rw p.1 (record {
      done = tt;
      contents = c.write_log.ensures.contents;
      agree = c.write_log.ensures.agree c.args.root.now c.requires.root.root.holds;
      ran = record { ran = err_most 2 2 _ _ (g.B.Board.seen c.args.b.now) (g.B.Board.seen c.write_log.new.b) (omega arith) c.in_err-w.ensures.ran.ran; bbram = c.write_log.ensures.ran.bbram };
    })

pub returns-clause-written : goal.returns-clause-written
returns-clause-written g c = record {
  done = entry_added (g.B.Board.seen c.args.b.now).memory (g.B.Board.seen c.write_log.new.b).memory c.args.root.now c.args.place c.in-Some.position c.args.room.now.header.items c.sign_next.new.room.log.items c.requires.place c.requires.root.up.loaded
      c.requires.root.live c.requires.root.root c.requires.header
      (subst (λ (position : Option ℕ). SignsTextAt c.args.root.now c.args.place c.args.room.now.header.items position c.sign_next.new.room.log.items) c.in-Some.is c.sign_next.ensures.signed)
      c.in_ok-w.ensures.written;
  contents = c.write_log.ensures.contents;
  agree = c.write_log.ensures.agree c.args.root.now c.requires.root.root.holds;
  ran = c.in_ok-w.ensures.ran;
}
