use Rattle.std.proofs.Common.{◌≡◌, inl, arith}
use Rattle.mb_board.specs.Reach.{in_first_area}
use Rattle.mb_test_rules.proofs.tests.boards.read.Goals as goal

pub bbram_read-requires-clause-reached : goal.bbram_read-requires-clause-reached
bbram_read-requires-clause-reached c =
    let level : c.raise.new.self.level ≡ 1 = omega arith in
    rw level
    (inl (in_first_area 1 record { least = omega arith; most = omega arith; reached = omega arith } (omega arith) (omega arith)))
