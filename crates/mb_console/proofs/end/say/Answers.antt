use Rattle.std.proofs.Common.{◌++◌, List, ℕ, codes, subst}
use Rattle.mb_model_commands.specs.Commands.{SaysLine}
use Rattle.mb_console.proofs.end.say.Goals as goal

pub returns-in-NotRead : goal.returns-in-NotRead
returns-in-NotRead g c =
    let outside = g.H.Host.outside in
    rw c.in-NotRead.is (subst (λ (word : List ℕ). SaysLine (codes "read failed " ++ word) (outside c.args.host.now) (outside c.say_line-in-NotRead.new.host)) c.role_word.ensures.word c.say_line-in-NotRead.ensures)

pub returns-in-NotWritten : goal.returns-in-NotWritten
returns-in-NotWritten g c =
    let outside = g.H.Host.outside in
    rw c.in-NotWritten.is (subst (λ (word : List ℕ). SaysLine (codes "write failed " ++ word) (outside c.args.host.now) (outside c.say_line-in-NotWritten.new.host)) c.role_word-in-NotWritten.ensures.word c.say_line-in-NotWritten.ensures)

pub returns-in-NotPrinted : goal.returns-in-NotPrinted
returns-in-NotPrinted g c = rw c.in-NotPrinted.is c.say_line-in-NotPrinted.ensures
