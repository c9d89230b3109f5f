use Rattle.std.proofs.Common.{All, take}
use Rattle.mb_model.specs.owners.Rules.{TargetHolds}
use Rattle.mb_authority.proofs.targets.target_fails.Given as goal

abbrev pub invariant-loop-i : goal.invariant-loop-i
invariant-loop-i l = All (λ t. TargetHolds l.view.serial l.view.layers l.view.length t) (take l.i l.target-items)
