use Rattle.mb_device_regions.proofs.Names.{named_is}
use Rattle.mb_device_regions.proofs.named.is_named.Goals as goal

pub returns : goal.returns
returns c = named_is c.as_slice.result.now c.args.secret.now.name c.args.name.now c.eq.ensures c.as_slice.ensures
