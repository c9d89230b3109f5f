use Rattle.std.proofs.Common.{All, take}
use Rattle.mb_orders.specs.Judging.{IsCountersignedOver}
use Rattle.mb_orders.proofs.signatures.countersignature_fails.Given as goal

abbrev pub invariant-loop-by : goal.invariant-loop-by
invariant-loop-by l = All (IsCountersignedOver l.layers l.body) (take l.by-index l.by-items)
