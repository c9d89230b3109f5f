use Rattle.std.proofs.Common.{◌∙◌, ap, subst, List}
use Rattle.mb_model.specs.declared.event.Answered.{Answered}
use Rattle.mb_model.specs.outside.Board.{use_of}
use Rattle.mb_tools_device.specs.RehearseCommand.{AllObeyed, veiled_text}
use Rattle.mb_tools_device.specs.Rehearsing.{TellsUnobeyed}
use Rattle.mb_tools_device.proofs.RehearseLemmas.{rehearsal_lacks, rehearsal_obeyed, rehearsal_refused}
use Rattle.mb_tools_device.proofs.rehearse.tell.Goals as goal

pub returns-in_default : goal.returns-in_default
returns-in_default g c =
    let ledger = (g.B.Board.seen c.args.board.now).ledger in
    rehearsal_lacks c.args.script.now ledger.answered (use_of ledger) ledger.standing (g.H.Host.outside c.args.host.now)

pub returns-in-None : goal.returns-in-None
returns-in-None g c =
    let outside = g.H.Host.outside in
    let ledger = (g.B.Board.seen c.args.board.now).ledger in
    rehearsal_obeyed c.args.script.now c.deref.result.now ledger.answered (use_of ledger) ledger.standing (outside c.args.host.now) (outside c.print_text.new.host) c.print_text.result
    (subst AllObeyed c.answered-answered.ensures c.in-None.ensures) (c.deref.ensures.value ∙ c.in-Ok.ensures ∙ ap veiled_text c.answered-answered.ensures) c.print_text.ensures

pub returns-in-Some : goal.returns-in-Some
returns-in-Some g c =
    let ledger = (g.B.Board.seen c.args.board.now).ledger in
    rehearsal_refused c.args.script.now c.in-Ok.text.items ledger.answered (use_of ledger) ledger.standing (g.H.Host.outside c.args.host.now) c.refused_at.result
    (c.in-Ok.ensures ∙ ap veiled_text c.answered-answered.ensures)
    (subst (λ (l : List Answered). TellsUnobeyed c.args.script.now c.in-Ok.text.items l c.refused_at.result) c.answered-answered.ensures c.refused_at.ensures)
