use Rattle.mb_device_regions.proofs.Replaced.{replaces}
use Rattle.mb_device_regions.proofs.stored.replace.Goals as goal

pub returns : goal.returns
returns g c = replaces c.put_region.result g.L.Compartment.place c.args.region.now _ _ _ _ g.met.L.Named.named c.requires.bytes c.requires.up.loaded c.put_region.ensures
