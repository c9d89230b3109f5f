use Rattle.std.specs.Prelude.{◌+◌, ◌*◌, ◌≤◌}
use Rattle.mb_model.specs.records.OrderFormat.{target_format}
use Rattle.mb_command.proofs.Lengths.{IsMeasured}
use Rattle.mb_command.proofs.targets.targets_length.Given as goal

abbrev pub invariant-loop-target : goal.invariant-loop-target
invariant-loop-target l = (l.total ≤ 1 + 34 * l.target-index) × IsMeasured target_format.spelling l.fn.targets 1 l.target-index l.total
