use Rattle.std.proofs.Common.{ℕ, List, Err, ◌++◌, codes, subst}
use Rattle.std.specs.Fmt.{decimal}
use Rattle.mb_model_commands.specs.Commands.{refuse}
use Rattle.mb_console.specs.Ending.{CarriesOut}
use Rattle.mb_tools_app.proofs.AppLemmas.{refusal_lacks}
use Rattle.mb_tools_app.proofs.callcode.no_action.Goals as goal

pub returns-in-Ok : goal.returns-in-Ok
returns-in-Ok c = λ before.
    subst (λ (l : List ℕ). CarriesOut (refuse l) before (Err c.refuse_line.result) before) c.in-Ok.ensures.ok (c.refuse_line.ensures before)

pub returns-in-Err : goal.returns-in-Err
returns-in-Err c = λ before. refusal_lacks (codes "no action at " ++ decimal c.args.at) before
