use Rattle.std.proofs.Common.{◌+◌, List, ℕ, sym, subst}
use Rattle.mb_model_commands.specs.Workload.{DrawnValue}
use Rattle.mb_generate.specs.Drawing.{IsDrawn, DrawnEach}
use Rattle.mb_generate.proofs.Drawings.{one_more_drawn}
use Rattle.mb_generate.proofs.draws.draw_values.Goals as goal

pub loop-value-preserved : goal.loop-value-preserved
loop-value-preserved c =
    subst (λ (values : List (List ℕ)). IsDrawn (DrawnEach DrawnValue (c.loop-value._value + 1)) c.args.rng.now values c.draw_value.new.rng) (sym c.in_ok-push.ensures.ok)
    (one_more_drawn DrawnValue c.args.rng.now c.loop-value._value c.loop-value.values c.loop-value.rng c.in_ok-draw_value.field-0 c.draw_value.new.rng
    c.loop-value.invariant c.in_ok-draw_value.ensures)
