use Rattle.mb_policy.proofs.Leaves.{number_next, number_over}
use Rattle.mb_policy.proofs.operands.take_number.Goals as goal

pub returns-in-Some-clause-found : goal.returns-in-Some-clause-found
returns-in-Some-clause-found c = number_next c.args.words.now c.take.new.self c.in-Some.word.now c.read_number.result c.in-Some.ensures c.read_number.ensures

pub returns-in-None-clause-found : goal.returns-in-None-clause-found
returns-in-None-clause-found c = number_over c.args.words.now c.in-None.ensures.0
