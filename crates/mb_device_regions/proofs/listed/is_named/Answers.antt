use Rattle.std.proofs.Common.{refl}
use Rattle.mb_device_regions.proofs.Names.{named_is}
use Rattle.mb_device_regions.proofs.listed.is_named.Goals as goal

pub returns : goal.returns
returns c = named_is c.args.shown.now.name.now c.args.shown.now.name.now c.args.name.now c.eq.ensures refl
