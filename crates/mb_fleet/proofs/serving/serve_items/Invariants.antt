-- The items so far are served.
use Rattle.std.proofs.Common.{take}
use Rattle.mb_fleet.specs.Serving.{AreServed}
use Rattle.mb_fleet.proofs.serving.serve_items.Given as goal

abbrev pub invariant-loop-item : goal.invariant-loop-item
invariant-loop-item l = AreServed l.fn.root l.initial.fleet (take l.item-index l.items) l.text.items l.fleet
