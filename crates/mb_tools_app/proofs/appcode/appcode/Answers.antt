use Rattle.std.proofs.Common.{refl, sym, subst, List, [], ℕ, Err}
use Rattle.mb_model_commands.specs.Outside.{Outside}
use Rattle.mb_console.specs.declared.end.End.TheVariants as end
use Rattle.mb_console.specs.Ending.{CarriesOut}
use Rattle.mb_console.proofs.Leading.{begins, reads, finds, stops_at_input, lacks_memory}
use Rattle.mb_model.specs.application.Runs.{AppRun}
use Rattle.mb_tools_app.specs.AppCommand.{tell_end}
use Rattle.mb_tools_app.specs.AppcodeCommand.{appcode, no_secrets}
use Rattle.mb_tools_app.specs.Names.{appcode_files}
use Rattle.mb_tools_app.proofs.appcode.appcode.Goals as goal

pub returns-in_err-code : goal.returns-in_err-code
unfolding appcode
returns-in_err-code g c = λ final. stops_at_input _ _ _ begins c.from_residual.ensures.1 c.in_err-code.ensures.err refl refl

pub returns-in_err-input : goal.returns-in_err-input
unfolding appcode
returns-in_err-input g c = λ final. stops_at_input _ _ _ (reads begins c.in_ok-code.ensures.read) c.from_residual-in_err-input.ensures.1 c.in_err-input.ensures.err refl refl

pub returns-in-Ok : goal.returns-in-Ok
unfolding appcode
returns-in-Ok g c = λ final.
    let input = reads (reads begins c.in_ok-code.ensures.read) c.in_ok-input.ensures.read in
    let steps = c.args.names.now.steps in
    let over_code = subst (λ (code : List ℕ). AppRun code c.deref-2.result.now no_secrets steps c.in-Ok.ending) c.deref.ensures.value c.in-Ok.ensures.run in
    let ran = subst (λ (bytes : List ℕ). AppRun c.in_ok-code.code.items bytes no_secrets steps c.in-Ok.ending) c.deref-2.ensures.value over_code in
    let outside = g.H.Host.outside in
    let told = subst (λ (o : Outside). CarriesOut (tell_end c.in-Ok.ending) o c.tell_end.result (outside c.tell_end.new.host)) c.try_code.ensures.told c.tell_end.ensures in
    (finds input c.in-Ok.ending ran).lead _ _ (told final)

pub returns : goal.returns
unfolding appcode
returns g c =
    let outside = g.H.Host.outside in
    subst (λ (o : Outside). CarriesOut (appcode (appcode_files c.args.names.now)) (outside c.args.host.now) (Err end.NoMemory) o) (sym c.try_code.ensures.told)
    (λ final. lacks_memory (reads (reads begins c.in_ok-code.ensures.read) c.in_ok-input.ensures.read) tt refl refl)
