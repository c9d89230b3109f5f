use Rattle.std.proofs.Common.{ℕ, List, Some, refl, sym, subst}
use Rattle.mb_model.specs.memories.Valid.{Valid}
use Rattle.mb_model_memory.specs.Storable.{Storable}
use Rattle.mb_console.specs.Ending.{CarriesOut}
use Rattle.mb_console.proofs.Leading.{begins, reads, stops_at_input}
use Rattle.mb_tools_app.specs.AppCommand.{app, run_stored_code}
use Rattle.mb_tools_app.specs.Names.{app_files}
use Rattle.mb_tools_app.proofs.AppLemmas.{dead_runs_nothing}
use Rattle.mb_tools_app.proofs.app.app.Goals as goal

pub run_stored_code-requires-clause-valid : goal.run_stored_code-requires-clause-valid
run_stored_code-requires-clause-valid g c = subst Valid c.in-Some.is c.in_ok-image.ensures.valid

pub run_stored_code-requires-clause-stored : goal.run_stored_code-requires-clause-stored
run_stored_code-requires-clause-stored g c = subst Storable c.in-Some.is c.in_ok-image.ensures.stored

pub returns-in_err-image-clause-carried : goal.returns-in_err-image-clause-carried
unfolding app
returns-in_err-image-clause-carried g c = λ final. stops_at_input _ _ _ begins c.from_residual.ensures.1 c.in_err-image.ensures.err refl refl

pub returns-in_err-input-clause-carried : goal.returns-in_err-input-clause-carried
unfolding app
returns-in_err-input-clause-carried g c = λ final. stops_at_input _ _ _ (reads begins c.in_ok-image.ensures.read) c.from_residual-in_err-input.ensures.1 c.in_err-input.ensures.err refl refl

pub returns-in-Some-clause-carried : goal.returns-in-Some-clause-carried
unfolding app
returns-in-Some-clause-carried g c = λ final.
    let input = reads (reads begins c.in_ok-image.ensures.read) c.in_ok-input.ensures.read in
    let outside = g.H.Host.outside in
    let names = app_files c.args.names.now in
    let mid = outside c.read_as.new.host in
    let now = outside c.run_stored_code.new.host in
    let carried = subst (λ (b : List ℕ). CarriesOut (run_stored_code names (Some c.in-Some.state) b) mid c.run_stored_code.result now) c.deref.ensures.value c.run_stored_code.ensures in
    let ran = subst (λ s. CarriesOut (run_stored_code names s c.in_ok-input.input.items) mid c.run_stored_code.result now) (sym c.in-Some.is) carried in
    input.lead _ _ (ran final)

pub returns-clause-carried : goal.returns-clause-carried
unfolding app
returns-clause-carried g c = λ final.
    let input = reads (reads begins c.in_ok-image.ensures.read) c.in_ok-input.ensures.read in
    dead_runs_nothing (app_files c.args.names.now) _ _ _ input c.in-None.is c.refused.ensures refl
