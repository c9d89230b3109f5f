use Rattle.mb_device_regions.proofs.Names.{told_there, told_absent}
use Rattle.mb_device_regions.proofs.named.value_in.Goals as goal

pub returns-in-Some : goal.returns-in-Some
returns-in-Some c = told_there c.args.region c.args.name.now c.as_slice.result.now c.in-Some.at c.remove.result c.as_slice.ensures c.in-Some.ensures c.remove.ensures.old

pub returns : goal.returns
returns c = told_absent c.args.region c.args.name.now c.as_slice.result.now c.as_slice.ensures c.in-None.ensures
