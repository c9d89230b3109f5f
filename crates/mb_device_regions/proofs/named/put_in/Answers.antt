use Rattle.std.proofs.Common.{arith, ap, length}
use Rattle.mb_device_regions.proofs.Names.{put_there, put_after, full_there}
use Rattle.mb_device_regions.proofs.named.put_in.Goals as goal

pub returns-in-Some : goal.returns-in-Some
returns-in-Some c =
    put_there c.args.secret c.args.region.now c.as_slice-2.result.now c.as_slice.result.now _ c.in-Some.at c.requires c.as_slice-2.ensures c.as_slice.ensures c.in-Some.ensures c.set-old.ensures.new

pub returns-in-None : goal.returns-in-None
returns-in-None c = full_there c.args.region.now c.as_slice-2.result.now c.args.secret.name c.as_slice.result.now c.as_slice-2.ensures c.as_slice.ensures c.in-None.ensures (omega (arith, ap length c.as_slice-count.ensures))

pub returns-in_ok-push-in-None-2 : goal.returns-in_ok-push-in-None-2
returns-in_ok-push-in-None-2 c =
    put_after c.args.secret c.args.region.now c.as_slice-2.result.now c.as_slice.result.now _ c.as_slice-2.ensures c.as_slice.ensures c.in-None-2.ensures (omega (arith, ap length c.as_slice-count.ensures)) c.in_ok-push-in-None-2.ensures.ok
