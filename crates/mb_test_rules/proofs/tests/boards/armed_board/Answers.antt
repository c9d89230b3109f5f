use Rattle.std.proofs.Common.{[], ◌∷◌, refl, arith}
use Rattle.mb_test_rules.proofs.tests.boards.armed_board.Goals as goal

pub loaded_board-requires-clause-event : goal.loaded_board-requires-clause-event
loaded_board-requires-clause-event c = (
  0xAA ∷ 0xBB ∷ [],
  record {
    least = omega arith;
    most = omega arith;
    torn = record { keep = c.requires; some = omega arith; most = omega arith; made = refl };
  },
)
