use Rattle.std.proofs.lemmas.Result.{on_ok_weaker}
use Rattle.mb_appvm.proofs.Tables.{more_by_line, same_by_line}
use Rattle.mb_appvm.proofs.table.Labels.add_text.Goals as goal

pub returns-in-Some : goal.returns-in-Some
returns-in-Some c = on_ok_weaker c.add_line.result (more_by_line c.args.self.now c.add_line.new.self c.args.line.now c.in-Some.said c.in-Some.ensures) c.add_line.ensures

pub returns-in-None : goal.returns-in-None
returns-in-None c = same_by_line c.args.self.now c.args.line.now c.in-None.ensures
