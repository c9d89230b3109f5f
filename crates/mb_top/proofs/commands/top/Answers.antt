use Rattle.std.proofs.Common.{map, string_bytes, sym, subst}
use Rattle.mb_top.specs.Top.{Ends}
use Rattle.mb_console.specs.Ending.{ended_at}
use Rattle.mb_top.proofs.Requests.{call_completes}
use Rattle.mb_top.proofs.commands.top.Goals as goal
use Rattle.mb_model.specs.outside.Board.{use_of}

pub returns-in-Err-clause-ends : goal.returns-in-Err-clause-ends
returns-in-Err-clause-ends g c =
    let board = c.command.new.board in
    subst (λ s. Ends (map string_bytes c.args.words.now) (ended_at (g.H.Host.outside c.args.host.now) (use_of (g.B.Board.seen board).ledger) (g.B.Board.seen board).ledger.standing (g.H.Host.outside c.stop.new.host) s))
    (sym c.stop.ensures.status) (c.in-Err.ensures.carried (g.H.Host.outside c.stop.new.host) c.stop.ensures.says)

pub returns-in-Err-clause-complete : goal.returns-in-Err-clause-complete
returns-in-Err-clause-complete g c = λ called given is files told has well. call_completes _ called given files _ is told has well (returns-in-Err-clause-ends g c)
