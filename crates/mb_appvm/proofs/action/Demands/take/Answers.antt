use Rattle.mb_appvm.specs.Asking.{demand_of}
use Rattle.mb_appvm.proofs.Asking.{none_left, one_taken, none_taken}
use Rattle.mb_appvm.proofs.action.Demands.take.Goals as goal

pub returns-then-self-eq0 : goal.returns-then-self-eq0
returns-then-self-eq0 c = none_left c.args.self.now.left c.args.self.now.cursor.bytes.now c.args.self.now.cursor.offset c.if-self-eq0.true

pub returns-in-Ok : goal.returns-in-Ok
returns-in-Ok c = one_taken c.args.self.now.left (demand_of c.in-Ok.demand) c.args.self.now.cursor c.demand_at.new.cursor c.if-self-eq0.false c.in-Ok.ensures

pub returns-in-Err : goal.returns-in-Err
returns-in-Err c = none_taken c.args.self.now.left c.in-Err.field-0.at c.args.self.now.cursor c.demand_at.new.cursor c.in-Err.ensures
