use Rattle.std.proofs.Common.{sym, ap, ◌∙◌}
use Rattle.mb_model_lemmas.proofs.AliveLemmas.{alive_keys-nil}
use Rattle.mb_image.specs.Keys.{listed_keys}
use Rattle.mb_image.proofs.LogSteps.{alive_more}
use Rattle.mb_image.proofs.alive.alive_keys.Goals as goal

pub loop-signed-init : goal.loop-signed-init
loop-signed-init c = ap listed_keys c.new-alive.ensures.items ∙ sym (alive_keys-nil c.args.layer)

pub loop-signed-preserved : goal.loop-signed-preserved
loop-signed-preserved c =
    alive_more c.args.log.now c.loop-signed.signed-index c.args.layer _ c.loop-signed.alive.items c.pass.new.alive.items c.loop-signed-test.true c.loop-signed.invariant c.in_ok-pass.ensures
