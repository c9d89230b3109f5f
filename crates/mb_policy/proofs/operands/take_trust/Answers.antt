use Rattle.mb_policy.proofs.Leaves.{trust_next, trust_over}
use Rattle.mb_policy.proofs.operands.take_trust.Goals as goal

pub returns-in-Some-clause-found : goal.returns-in-Some-clause-found
returns-in-Some-clause-found c = trust_next c.args.words.now c.take.new.self c.in-Some.word.now c.find_trust.result c.in-Some.ensures c.find_trust.ensures

pub returns-in-None-clause-found : goal.returns-in-None-clause-found
returns-in-None-clause-found c = trust_over c.args.words.now c.in-None.ensures.0
