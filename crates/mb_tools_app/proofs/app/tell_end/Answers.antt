use Rattle.std.proofs.Common.{ℕ, List, Err, sym, ◌∙◌, ap, subst}
use Rattle.mb_model_commands.specs.Commands.{refuse}
use Rattle.mb_console.specs.Ending.{CarriesOut}
use Rattle.mb_model.specs.declared.running.AppEnd.{AppEnd}
use Rattle.mb_tools_app.specs.AppCommand.{tell_end, app_line}
use Rattle.mb_tools_app.proofs.AppLemmas.{end_lacks}
use Rattle.mb_tools_app.proofs.app.tell_end.Goals as goal

pub returns-in_default : goal.returns-in_default
returns-in_default g c = end_lacks c.args.ending.now (g.H.Host.outside c.args.host.now)

pub returns-in-OutOfSteps : goal.returns-in-OutOfSteps
returns-in-OutOfSteps g c =
    let before = g.H.Host.outside c.args.host.now in
    let result = Err c.refuse_line-in-OutOfSteps.result in
    subst (λ (e : AppEnd). CarriesOut (tell_end e) before result before) (sym c.in-OutOfSteps.is)
    (subst (λ (l : List ℕ). CarriesOut (refuse l) before result before) (c.in-Ok.ensures ∙ ap app_line c.in-OutOfSteps.is) (c.refuse_line-in-OutOfSteps.ensures before))
