use Rattle.mb_policy.proofs.Leaves.{layer_next, layer_over}
use Rattle.mb_policy.proofs.operands.take_layer.Goals as goal

pub returns-in-Some-clause-found : goal.returns-in-Some-clause-found
returns-in-Some-clause-found c = layer_next c.args.last c.args.words.now c.take.new.self c.in-Some.word.now c.read_layer.result c.in-Some.ensures c.read_layer.ensures

pub returns-in-None-clause-found : goal.returns-in-None-clause-found
returns-in-None-clause-found c = layer_over c.args.last c.args.words.now c.in-None.ensures.0
