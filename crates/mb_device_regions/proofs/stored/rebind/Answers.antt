use Rattle.mb_layout_edits.specs.Edits.{region_with_use}
use Rattle.mb_device_regions.proofs.Replaced.{replaces}
use Rattle.mb_device_regions.proofs.stored.rebind.Goals as goal

pub returns-clause-replaces : goal.returns-clause-replaces
returns-clause-replaces g c =
    replaces c.bind_region.result g.L.Compartment.place (region_with_use c.args.key c.args.region.now) _ _ _ _ g.met.L.Named.named c.requires.bytes c.requires.up.loaded c.bind_region.ensures.puts
