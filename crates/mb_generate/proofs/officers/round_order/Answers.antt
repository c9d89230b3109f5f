use Rattle.std.proofs.Common.{◌+◌, arith}
use Rattle.mb_generate.proofs.Planning.{can_carry}
use Rattle.mb_generate.proofs.officers.round_order.Goals as goal

pub load_layer-requires-clause-able : goal.load_layer-requires-clause-able
load_layer-requires-clause-able g c = can_carry _ (1 + c.args.round) c.args.code.now c.in_ok-load.load c.in_ok-load.ensures (omega arith) (omega arith) (omega (arith, c.requires.round)) c.requires.code

pub load_layer-requires-in-2-clause-able : goal.load_layer-requires-in-2-clause-able
load_layer-requires-in-2-clause-able g c = can_carry _ (1 + c.args.round) c.args.code.now c.in_ok-load.load c.in_ok-load.ensures (omega arith) (omega arith) (omega (arith, c.requires.round)) c.requires.code

pub load_layer-requires-in_default-clause-able : goal.load_layer-requires-in_default-clause-able
load_layer-requires-in_default-clause-able g c = can_carry _ (1 + c.args.round) c.args.code.now c.in_ok-load.load c.in_ok-load.ensures (omega arith) (omega arith) (omega (arith, c.requires.round)) c.requires.code
