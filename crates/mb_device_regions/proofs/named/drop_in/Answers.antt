use Rattle.mb_device_regions.proofs.Names.{dropped_there, absent_there}
use Rattle.mb_device_regions.proofs.named.drop_in.Goals as goal

pub returns-in-Some : goal.returns-in-Some
returns-in-Some c =
    dropped_there c.args.region.now c.args.name.now c.as_slice.result.now _ c.in-Some.at c.remove-old.result c.requires c.as_slice.ensures c.in-Some.ensures c.remove-old.ensures.new

pub returns-in-None : goal.returns-in-None
returns-in-None c = absent_there c.args.region.now c.args.name.now c.as_slice.result.now c.as_slice.ensures c.in-None.ensures
