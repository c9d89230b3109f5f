use Rattle.std.proofs.Common.{◌∙◌, refl}
use Rattle.mb_generate.specs.Drawing.{draws_of}
use Rattle.mb_generate.proofs.Drawings.{draws_fit}
use Rattle.mb_generate.proofs.Telling.{served}
use Rattle.mb_generate.proofs.make.workload.Goals as goal

pub script_of-requires-clause-fit : goal.script_of-requires-clause-fit
script_of-requires-clause-fit g c = draws_fit c.args.number c.args.rounds (draws_of c.in_ok-drawn.drawn) c.in_ok-drawn.ensures

pub returns-clause-served : goal.returns-clause-served
returns-clause-served g c =
    served c.args.number c.args.rounds (draws_of c.in_ok-drawn.drawn) _ c.in_ok-drawn.ensures c.requires.most (c.from_vec-2.ensures ∙ c.in_ok-script.ensures.text) refl
