use Rattle.std.proofs.Common.{arith}
use Rattle.mb_model.specs.owners.Layers.{Runnable}
use Rattle.mb_tools_app.specs.Names.{app_files}
use Rattle.mb_tools_app.proofs.AppLemmas.{layer_may_not_run, layer_runs, run_lacks}
use Rattle.mb_tools_app.proofs.app.run_stored_code.Goals as goal

pub returns-then-not-is_runnable : goal.returns-then-not-is_runnable
returns-then-not-is_runnable g c =
    layer_may_not_run (app_files c.args.names.now) c.args.state.now c.args.input.now (g.H.Host.outside c.args.host.now) c.refused.result
    (λ (runs : Runnable c.args.state.now.layers c.args.names.now.layer). grind (arith, runs, c.is_runnable.ensures, c.if-not-is_runnable.true)) c.refused.ensures

pub returns-in-Ok : goal.returns-in-Ok
returns-in-Ok g c =
    let outside = g.H.Host.outside in
    let runs : Runnable c.args.state.now.layers c.args.names.now.layer = grind (arith, c.is_runnable.ensures, c.if-not-is_runnable.false) in
    layer_runs (app_files c.args.names.now) c.args.state.now c.args.input.now c.in-Ok.ending (outside c.args.host.now) (outside c.tell_end.new.host) c.tell_end.result
    runs c.in-Ok.ensures c.tell_end.ensures

pub returns-in-Err : goal.returns-in-Err
returns-in-Err g c =
    let runs : Runnable c.args.state.now.layers c.args.names.now.layer = grind (arith, c.is_runnable.ensures, c.if-not-is_runnable.false) in
    run_lacks (app_files c.args.names.now) c.args.state.now c.args.input.now (g.H.Host.outside c.args.host.now) runs
