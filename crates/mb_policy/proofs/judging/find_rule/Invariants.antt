use Rattle.mb_policy.specs.Tables.{situation_meant}
use Rattle.mb_policy.proofs.Judged.{IsPassing}
use Rattle.mb_policy.proofs.judging.find_rule.Given as goal

abbrev pub invariant-loop-index : goal.invariant-loop-index
invariant-loop-index l = IsPassing l.lines (situation_meant l.situation) l.seen l.index
