use Rattle.mb_model_commands.specs.Workload.{DrawnValue}
use Rattle.mb_generate.specs.Drawing.{IsDrawn, DrawnEach}
use Rattle.mb_generate.proofs.draws.draw_values.Given as goal

abbrev pub invariant-loop-value : goal.invariant-loop-value
invariant-loop-value l = IsDrawn (DrawnEach DrawnValue l._value) l.fn.rng l.values l.rng
