use Rattle.std.proofs.Common.{◌≡◌, length}
use Rattle.mb_script.proofs.Drawings.{IsDrawing}
use Rattle.mb_script.proofs.draws.place_draws.Given as goal

abbrev pub invariant-loop-at : goal.invariant-loop-at
invariant-loop-at l = record {
  count : l.count ≡ length l.fn.events;
  drawing : IsDrawing l.noise l.fn.events l.events l.left l.at;
}
