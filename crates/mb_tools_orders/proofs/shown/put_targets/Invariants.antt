use Rattle.std.proofs.Common.{◌≡◌, ◌++◌, take}
use Rattle.std.specs.Prelude.{map}
use Rattle.mb_model.specs.chains.Lines.{text_of}
use Rattle.mb_tools_orders.specs.ShowOrder.{target_line}
use Rattle.mb_tools_orders.proofs.shown.put_targets.Given as goal

abbrev pub invariant-loop-target : goal.invariant-loop-target
invariant-loop-target l = l.out.items ≡ l.initial.out.items ++ text_of (map target_line (take l.target-index l.targets))
