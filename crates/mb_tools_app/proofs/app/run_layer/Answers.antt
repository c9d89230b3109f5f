use Rattle.std.proofs.Common.{arith}
use Rattle.mb_tools_app.proofs.AppLemmas.{runnable_has_code, stored_is_short}
use Rattle.mb_tools_app.proofs.app.run_layer.Goals as goal

pub code_of_layer-code-requires : goal.code_of_layer-code-requires
code_of_layer-code-requires c =
    runnable_has_code c.args.state.now c.args.layer c.requires.layer c.requires.valid c.requires.stored c.requires.runnable

pub run_app-requires-clause-code : goal.run_app-requires-clause-code
run_app-requires-clause-code c =
    omega (arith, stored_is_short c.args.state.now.codes c.args.layer c.code_of_layer-code.result.now c.requires.stored.codes c.code_of_layer-code.ensures)
