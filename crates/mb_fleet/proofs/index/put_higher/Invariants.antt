-- The serials so far.
use Rattle.std.proofs.Common.{◌≡◌, ◌++◌, take}
use Rattle.mb_fleet.specs.Indexes.{higher}
use Rattle.mb_fleet.proofs.index.put_higher.Given as goal

abbrev pub invariant-loop-other : goal.invariant-loop-other
invariant-loop-other l = l.out ≡ l.initial.out ++ higher l.serial (take l.other-index l.serials)
