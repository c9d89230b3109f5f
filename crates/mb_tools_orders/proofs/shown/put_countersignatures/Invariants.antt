use Rattle.std.proofs.Common.{◌≡◌, ◌++◌, take}
use Rattle.std.specs.Prelude.{map}
use Rattle.mb_model.specs.chains.Lines.{text_of}
use Rattle.mb_tools_orders.specs.ShowOrder.{countersignature_line}
use Rattle.mb_tools_orders.proofs.shown.put_countersignatures.Given as goal

abbrev pub invariant-loop-by : goal.invariant-loop-by
invariant-loop-by l = l.out.items ≡ l.initial.out.items ++ text_of (map countersignature_line (take l.by-index l.list))
