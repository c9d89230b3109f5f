use Rattle.mb_policy.proofs.Leaves.{kind_next, kind_over}
use Rattle.mb_policy.proofs.operands.take_kind.Goals as goal

pub returns-in-Some-clause-found : goal.returns-in-Some-clause-found
returns-in-Some-clause-found c = kind_next c.args.words.now c.take.new.self c.in-Some.word.now c.find_kind.result c.in-Some.ensures c.find_kind.ensures

pub returns-in-None-clause-found : goal.returns-in-None-clause-found
returns-in-None-clause-found c = kind_over c.args.words.now c.in-None.ensures.0
