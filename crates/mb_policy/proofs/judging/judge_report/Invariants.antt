use Rattle.mb_policy.specs.Judging.{AllowsFirst}
use Rattle.mb_policy.specs.Meanings.{policy_items}
use Rattle.mb_policy.proofs.judging.judge_report.Given as goal

abbrev pub invariant-loop-index : goal.invariant-loop-index
invariant-loop-index l = AllowsFirst (policy_items l.policy) l.report l.index
