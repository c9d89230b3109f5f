use Rattle.std.proofs.Common.{◌≡◌, take}
use Rattle.mb_board.specs.Cuts.{filling}
use Rattle.mb_board.proofs.bank.fill.Given as goal

abbrev pub invariant-loop-offset : goal.invariant-loop-offset
invariant-loop-offset l = take l.offset l.range ≡ filling l.tear l.offset
