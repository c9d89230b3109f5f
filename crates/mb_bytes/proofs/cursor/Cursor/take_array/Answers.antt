use Rattle.std.proofs.Common.{refl, arith, length-drop}
use Rattle.mb_bytes.proofs.Exactly.{rest_is, raw_ok, raw_err}
use Rattle.mb_bytes.proofs.cursor.Cursor.take_array.Goals as goal

pub returns-in-Some-clause-reads : goal.returns-in-Some-clause-reads
returns-in-Some-clause-reads g c =
    let field = rw (rest_is c.args.self.now.bytes.now c.args.self.now.offset) at c.in-Some.ensures.cases in
    raw_ok g.row.N c.in-Some.field.now refl refl (omega (arith, field.enough, c.args.self.now.within, length-drop c.args.self.now.offset c.args.self.now.bytes.now)) field.same

pub returns-in-None-clause-reads : goal.returns-in-None-clause-reads
returns-in-None-clause-reads g c =
    let none = rw (rest_is c.args.self.now.bytes.now c.args.self.now.offset) at c.in-None.ensures.cases in
    raw_err g.row.N refl (omega (arith, none, length-drop c.args.self.now.offset c.args.self.now.bytes.now))
