use Rattle.std.proofs.Common.{◌++◌, sym, ap, ◌∙◌}
use Rattle.mb_model.specs.declared.event.Answered.{Answered}
use Rattle.mb_tools_device.specs.RehearseCommand.{Unobeyed, first_line}
use Rattle.mb_tools_device.proofs.RehearseLemmas.{first_told}
use Rattle.mb_tools_device.proofs.rehearse.refused_at.Goals as goal

pub returns-in-Ok : goal.returns-in-Ok
returns-in-Ok c =
    let line = c.line_of-line.result in
    let lines = c.in-Ok.ensures ∙ ap (λ (a : Answered). let first : Unobeyed = record { line = line; reply = a.reply } in c.args.text.items ++ first_line first) (sym c.index-answered-index.is) in
    first_told c.args.script.now c.args.text.items c.args.answered.now c.args.index line c.index-answered-index.result c.in-Ok.lines c.requires.first c.index-answered-index.is
    c.line_of-line.ensures lines
