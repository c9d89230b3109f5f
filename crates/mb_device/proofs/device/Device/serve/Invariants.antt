use Rattle.std.proofs.Common.{◌≡◌, ◌+◌, ◌*◌, ◌≤◌, length}
use Rattle.mb_board.specs.Calls.{held_by}
use Rattle.mb_device.specs.declared.step.TheConstants.{STEP_HASHES}
use Rattle.mb_device.proofs.Serves.{Serves}
use Rattle.mb_device.proofs.device.Device.serve.Given as goal

abbrev pub invariant-events : goal.invariant-events
invariant-events g l =
    Serves (g.B.Board.seen l.initial.b).ledger l.initial.device (held_by (g.B.Board.seen l.initial.b).memory (g.B.Board.seen l.initial.b).power (g.B.Board.seen l.initial.b).level (g.B.Board.seen l.initial.b).meter)
    l.device (g.B.Board.seen l.b).ledger (held_by (g.B.Board.seen l.b).memory (g.B.Board.seen l.b).power (g.B.Board.seen l.b).level (g.B.Board.seen l.b).meter)
    × ((g.B.Board.seen l.b).ledger.stops ≡ (g.B.Board.seen l.b).meter.stops)
    × (l.hashes + STEP_HASHES * length (g.B.Board.seen l.b).ledger.waiting
    ≤ l.initial.hashes + STEP_HASHES * length (g.B.Board.seen l.initial.b).ledger.waiting)

abbrev pub decreases-events : goal.decreases-events
decreases-events g l = length (g.B.Board.seen l.b).ledger.waiting
