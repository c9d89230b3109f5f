use Rattle.std.proofs.Common.{ℕ, List, sym, subst}
use Rattle.mb_model.specs.declared.running.AppEnd.{AppEnd}
use Rattle.mb_model_commands.specs.Commands.{find}
use Rattle.mb_console.specs.Ending.{CarriesOut}
use Rattle.mb_tools_app.specs.CallcodeCommand.{OutputComesTo, tell_output, tell_call}
use Rattle.mb_tools_app.proofs.callcode.tell_call.Goals as goal

pub returns-in-Halted : goal.returns-in-Halted
returns-in-Halted g c =
    let before = g.H.Host.outside c.args.host.now in
    let now = g.H.Host.outside c.act.new.host in
    let next = c.args.next.now in
    let secrets = c.args.secrets.now in
    subst (λ (e : AppEnd). CarriesOut (tell_call next secrets e) before c.act.result now) (sym c.in-Halted.is)
    (subst (λ (o : List ℕ). CarriesOut (find (OutputComesTo secrets o) (tell_output next)) before c.act.result now) c.as_slice.ensures c.act.ensures)
