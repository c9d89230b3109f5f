use Rattle.std.proofs.Common.{ℕ, ◌≤◌, ◌∙◌, refl, sym, ap, subst, inr}
use Rattle.mb_board.specs.Calls.{held_in, IsUp}
use Rattle.mb_model.specs.declared.event.Event.TheVariants as event
use Rattle.mb_model.specs.declared.reply.Refusal.TheVariants.{WrongLayer}
use Rattle.mb_device.specs.declared.device.Device.{Device}
use Rattle.mb_device.specs.KeptTrees.{trees_of}
use Rattle.mb_device.specs.Sound.{Fits, IsSoundDevice, Steps}
use Rattle.mb_device.proofs.Answered.{refused}
use Rattle.mb_device.proofs.Calling.{IsCall, call_refused, called, call_stopped}
use Rattle.mb_device.proofs.Uses.{is_up, remembers}
use Rattle.mb_device.proofs.calls.call_two_at.Goals as goal

pub call_two-requires-clause-can_answer : goal.call_two-requires-clause-can_answer
call_two-requires-clause-can_answer g c =
    let has = c.requires.sound in
    let own = g.met.S.Runs.runs c.args.s c.args.running (g.B.Board.seen c.args.b.now).memory.flash has.world has.sound.fits in
    record {
      up = subst (λ (n : ℕ). IsUp n (g.B.Board.seen c.args.b.now)) (sym c.requires.level) (is_up (g.S.Runs.holder c.args.s c.args.running) g.S.Runs.level (g.B.Board.seen c.args.b.now) has.world has.sound own.phase);
      bytes = c.requires.bytes;
      remembered = remembers (g.S.Runs.holder c.args.s c.args.running) g.S.Runs.level (g.B.Board.seen c.args.b.now) c.args.running has.world has.sound own;
    }

pub returns-then-not-may_run : goal.returns-then-not-may_run
returns-then-not-may_run g c =
    refused _ _ (g.S.Runs.holder c.args.s c.args.running) c.into_device.result (event.Call 2 c.args.key c.args.input.now) c.reply.result WrongLayer (g.B.Board.seen c.args.b.now) c.args.hashes.now (sym c.into_device.ensures) c.reply.ensures (λ held. refl)
    (λ world held.
    let sound = subst (λ (d : Device). IsSoundDevice d (held_in (g.B.Board.seen c.args.b.now)) world) c.into_device.ensures held in
    let own = g.met.S.Runs.runs c.args.s c.args.running (g.B.Board.seen c.args.b.now).memory.flash world sound.fits in
    subst (λ (d : Device). Steps world (event.Call 2 c.args.key c.args.input.now) c.reply.result d (held_in (g.B.Board.seen c.args.b.now))) (sym c.into_device.ensures)
    (call_refused (g.S.Runs.holder c.args.s c.args.running) g.S.Runs.level 2 c.args.running (held_in (g.B.Board.seen c.args.b.now)) world c.args.key c.args.input.now c.reply.result c.reply.ensures sound own sound.fits
    (inr (sym c.if-not-may_run.ensures))))

pub returns-in-Ok : goal.returns-in-Ok
returns-in-Ok g c =
    let is : IsCall g.S.Runs.level 2 (g.S.Runs.holder c.args.s c.args.running) c.args.running = record {
      runs_in = g.met.S.Runs.runs c.args.s c.args.running;
      here = subst (λ (n : ℕ). n ≤ 2) c.requires.level g.met.S.Reaches.within;
      some = subst (λ (n : ℕ). 1 ≤ n) c.requires.level g.met.S.Reaches.raised;
      runs = sym c.if-not-may_run.ensures;
    } in
    called g.S.Runs.level 2 (g.S.Runs.holder c.args.s c.args.running) c.into_device-in-Ok.result c.args.running c.call_two.new.running c.args.key c.args.input.now c.in-Ok.s c.in-Ok.reply (g.B.Board.seen c.args.b.now) (g.B.Board.seen c.call_two.new.b) c.args.hashes.now c.call_two.new.hashes
    is (λ flash w own. subst (λ (d : Device). Fits d flash w) (sym c.into_device-in-Ok.ensures) (g.met.S.Runs.fits c.in-Ok.s c.call_two.new.running flash w own))
    (g.met.S.Runs.trees c.args.s c.args.running) (ap trees_of c.into_device-in-Ok.ensures ∙ g.met.S.Runs.trees c.in-Ok.s c.call_two.new.running) c.requires.sound c.in-Ok.ensures.calls c.in-Ok.ensures.trees

pub returns-in-Err : goal.returns-in-Err
returns-in-Err g c =
    let is : IsCall g.S.Runs.level 2 (g.S.Runs.holder c.args.s c.args.running) c.args.running = record {
      runs_in = g.met.S.Runs.runs c.args.s c.args.running;
      here = subst (λ (n : ℕ). n ≤ 2) c.requires.level g.met.S.Reaches.within;
      some = subst (λ (n : ℕ). 1 ≤ n) c.requires.level g.met.S.Reaches.raised;
      runs = sym c.if-not-may_run.ensures;
    } in
    call_stopped g.S.Runs.level 2 (g.S.Runs.holder c.args.s c.args.running) c.args.running c.call_two.new.running c.args.key c.args.input.now c.in-Err.off (g.B.Board.seen c.args.b.now) (g.B.Board.seen c.call_two.new.b) c.args.hashes.now c.call_two.new.hashes
    is (g.met.S.Runs.trees c.args.s c.args.running) c.in-Err.ensures.calls c.in-Err.ensures.trees
