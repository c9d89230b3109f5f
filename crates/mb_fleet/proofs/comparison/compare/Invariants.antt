-- The hashes so far are the same.
use Rattle.std.proofs.Common.{◌≡◌, take}
use Rattle.mb_fleet.proofs.comparison.compare.Given as goal

abbrev pub invariant-loop-index : goal.invariant-loop-index
invariant-loop-index l = take l.index l.old ≡ take l.index l.new
