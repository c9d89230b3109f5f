use Rattle.std.proofs.Common.{sym, subst}
use Rattle.mb_model.specs.records.RegionFormat.{CanBeWritten}
use Rattle.mb_outbound.proofs.KeyUses.{given_written}
use Rattle.mb_outbound.proofs.given.bind_region.Goals as goal

pub put_region-requires-clause-stored : goal.put_region-requires-clause-stored
put_region-requires-clause-stored g c =
    subst CanBeWritten (sym c.use_key-found.ensures.used) (given_written c.args.region.now c.args.key c.use_key-found.result c.requires.ordered c.requires.stored c.use_key-found.ensures.found)
