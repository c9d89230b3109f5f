-- The items so far are read, and stand before the cursor.
use Rattle.std.proofs.Common.{length, ◌-◌}
use Rattle.mb_fleet.proofs.Reading.{IsReadTo}
use Rattle.mb_fleet.proofs.item.read_items.Given as goal

abbrev pub invariant-loop-cursor : goal.invariant-loop-cursor
invariant-loop-cursor l = IsReadTo l.bytes l.cursor l.items

abbrev pub decreases-loop-cursor : goal.decreases-loop-cursor
decreases-loop-cursor l = length l.bytes - l.cursor.offset
