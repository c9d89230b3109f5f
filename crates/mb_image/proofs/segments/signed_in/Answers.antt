use Rattle.std.proofs.Common.{length, ap}
use Rattle.mb_image.proofs.Sectors.{empty_log, log_more}
use Rattle.mb_image.proofs.segments.signed_in.Goals as goal

pub loop-position-init : goal.loop-position-init
loop-position-init c = record { count = ap length c.new-log.ensures; holds = empty_log c.args.flash.now c.new-log.result c.new-log.ensures }

pub loop-position-preserved : goal.loop-position-preserved
loop-position-preserved c =
    log_more c.args.flash.now c.loop-position.log c.push.new.self c.in-Some.signed c.loop-position.position c.loop-position.invariant.count c.loop-position.invariant.holds c.in-Some.ensures c.in_ok-push.ensures.ok

pub returns-in_default : goal.returns-in_default
returns-in_default c = record { position = c.loop-position.position; below = c.loop-position-test.true; none = c.in_default.ensures }
