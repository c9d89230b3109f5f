use Rattle.std.proofs.Common.{refl, sym, subst, List, ℕ, Err}
use Rattle.mb_model_commands.specs.Outside.{Outside}
use Rattle.mb_console.specs.declared.end.End.TheVariants as end
use Rattle.mb_console.specs.Ending.{CarriesOut}
use Rattle.mb_console.proofs.Leading.{begins, reads, finds, stops_at_input, lacks_memory}
use Rattle.mb_model.specs.application.Runs.{AppRun}
use Rattle.mb_model.specs.declared.region.Secret.{Secret}
use Rattle.mb_tools_app.specs.CallcodeCommand.{callcode, secrets_three, tell_call}
use Rattle.mb_tools_app.specs.Names.{callcode_files}
use Rattle.mb_tools_app.proofs.callcode.callcode.Goals as goal

pub returns-in_err-code : goal.returns-in_err-code
unfolding callcode
returns-in_err-code g c = λ final. stops_at_input _ _ _ begins c.from_residual.ensures.1 c.in_err-code.ensures.err refl refl

pub returns-in_err-secrets : goal.returns-in_err-secrets
unfolding callcode
returns-in_err-secrets g c = λ final. stops_at_input _ _ _ (reads begins c.in_ok-code.ensures.read) c.from_residual-in_err-secrets.ensures.1 c.in_err-secrets.ensures.err refl refl

pub returns-in_err-input : goal.returns-in_err-input
unfolding callcode
returns-in_err-input g c = λ final.
    stops_at_input _ _ _ (reads (reads begins c.in_ok-code.ensures.read) c.in_ok-secrets.ensures.read) c.from_residual-in_err-input.ensures.1 c.in_err-input.ensures.err refl refl

pub returns-in-Ok : goal.returns-in-Ok
unfolding callcode
returns-in-Ok g c = λ final.
    let input = reads (reads (reads begins c.in_ok-code.ensures.read) c.in_ok-secrets.ensures.read) c.in_ok-input.ensures.read in
    let over_code = subst (λ (code : List ℕ). AppRun code c.deref-2.result.now (secrets_three c.as_slice.result.now) 1000000 c.in-Ok.ending) c.deref.ensures.value c.in-Ok.ensures.run in
    let over_input = subst (λ (bytes : List ℕ). AppRun c.in_ok-code.code.items bytes (secrets_three c.as_slice.result.now) 1000000 c.in-Ok.ending) c.deref-2.ensures.value over_code in
    let ran = subst (λ (s : List Secret). AppRun c.in_ok-code.code.items c.in_ok-input.input.items (secrets_three s) 1000000 c.in-Ok.ending) c.as_slice.ensures over_input in
    let outside = g.H.Host.outside in
    let carried = subst (λ (s : List Secret). CarriesOut (tell_call c.args.names.now.next.now s c.in-Ok.ending) (outside c.try_code.new.host) c.tell_call.result (outside c.tell_call.new.host)) c.as_slice-in-Ok.ensures c.tell_call.ensures in
    let told = subst (λ (o : Outside). CarriesOut (tell_call c.args.names.now.next.now c.in_ok-secrets.secrets c.in-Ok.ending) o c.tell_call.result (outside c.tell_call.new.host)) c.try_code.ensures.told carried in
    (finds input c.in-Ok.ending ran).lead _ _ (told final)

pub returns : goal.returns
unfolding callcode
returns g c =
    let outside = g.H.Host.outside in
    subst (λ (o : Outside). CarriesOut (callcode (callcode_files c.args.names.now)) (outside c.args.host.now) (Err end.NoMemory) o) (sym c.try_code.ensures.told)
    (λ final. lacks_memory (reads (reads (reads begins c.in_ok-code.ensures.read) c.in_ok-secrets.ensures.read) c.in_ok-input.ensures.read) tt refl refl)
