use Rattle.std.proofs.Common.{sym, ap, ◌∙◌}
use Rattle.std.specs.Prelude.{unwrap_or}
use Rattle.mb_log.proofs.Fronts.{layers_none, layers_more}
use Rattle.mb_log.proofs.figures.layers_of.Goals as goal

pub loop-signed-init : goal.loop-signed-init
loop-signed-init c = c.unowned_layers-layers.ensures ∙ sym layers_none

pub loop-signed-preserved : goal.loop-signed-preserved
loop-signed-preserved c =
    c.unwrap_or-layers.ensures ∙ ap (λ o. unwrap_or o c.loop-signed.layers) c.layers_in.ensures
    ∙ layers_more c.args.log.now c.loop-signed.signed-index _ c.loop-signed.layers c.loop-signed-test.true c.loop-signed.invariant
