use Rattle.std.proofs.Common.{◌≡◌, ◌*◌, length, take}
use Rattle.mb_board.specs.Kept.{IsSameUnchanged}
use Rattle.mb_board.proofs.bank.copy_changed.Given as goal

abbrev pub invariant-loop-sector : goal.invariant-loop-sector
invariant-loop-sector l = record {
  same : IsSameUnchanged l.changed.items l.standing.items l.bytes;
  front : take (4096 * l.sector) l.standing.items ≡ take (4096 * l.sector) l.bytes;
  count : length l.changed.items ≡ length l.initial.changed.items;
}
