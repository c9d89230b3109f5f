use Rattle.std.proofs.Common.{arith}
use Rattle.mb_appvm.specs.Acting.{surroundings_of}
use Rattle.mb_appvm.proofs.Actions.{steps_on, lacks_values, lacks_room}
use Rattle.mb_appvm.proofs.machine.Machine.step.Goals as goal

pub returns-then-values-taken : goal.returns-then-values-taken
returns-then-values-taken c = lacks_values (surroundings_of c.args.environment.now) c.in-Some.instruction c.in-Some.next c.args.self.now c.in-Some.ensures (omega arith)

pub returns-then-values-leaves : goal.returns-then-values-leaves
returns-then-values-leaves c = lacks_room (surroundings_of c.args.environment.now) c.in-Some.instruction c.in-Some.next c.args.self.now c.in-Some.ensures (omega arith) (omega arith)

pub returns : goal.returns
returns c = steps_on (surroundings_of c.args.environment.now) c.in-Some.instruction c.in-Some.next c.args.self.now c.act.new.self c.act.result c.in-Some.ensures (omega arith) c.act.ensures
