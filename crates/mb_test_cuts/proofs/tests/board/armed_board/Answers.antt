use Rattle.std.proofs.Common.{[], ◌∷◌, refl, arith}
use Rattle.mb_test_cuts.proofs.tests.board.armed_board.Goals as goal

pub loaded_board-requires-clause-event : goal.loaded_board-requires-clause-event
loaded_board-requires-clause-event c = (
  c.args.fill ∷ [],
  record {
    least = c.requires.least;
    most = c.requires.most;
    torn = record { keep = omega arith; some = omega arith; most = omega arith; made = refl };
  },
)
