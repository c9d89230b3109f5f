use Rattle.mb_image.proofs.RegionSteps.{last_none, last_more, last_whole}
use Rattle.mb_image.proofs.regions.last_loss.Goals as goal

pub loop-signed-init : goal.loop-signed-init
loop-signed-init c = last_none c.args.log.now c.args.layer

pub loop-signed-preserved : goal.loop-signed-preserved
loop-signed-preserved c =
    last_more c.args.log.now c.loop-signed.signed-index c.args.layer c.loop-signed.last c.loss.result c.max-last.result _ c.loop-signed-test.true c.loss.ensures c.max-last.ensures c.loop-signed.invariant

pub returns-clause-upper : goal.returns-clause-upper
returns-clause-upper c = (last_whole c.args.log.now c.loop-signed.signed-index c.args.layer c.loop-signed.last c.loop-signed-test.false c.loop-signed.invariant).0

pub returns-clause-least : goal.returns-clause-least
returns-clause-least c = (last_whole c.args.log.now c.loop-signed.signed-index c.args.layer c.loop-signed.last c.loop-signed-test.false c.loop-signed.invariant).1
