use Rattle.mb_model.specs.owners.Regions.{region_of}
use Rattle.mb_device_regions.proofs.Readied.{region_held, region_kept, kept_if}
use Rattle.mb_device_regions.proofs.stored.load.Goals as goal

pub read_stored-requires-clause-held : goal.read_stored-requires-clause-held
read_stored-requires-clause-held g c = record {
  region = region_of c.requires.ready.state g.L.Compartment.place;
  holds = region_held g.L.Compartment.place _ c.requires.ready.state g.met.L.Named.named c.requires.ready.ready;
}

pub returns-clause-region : goal.returns-clause-region
returns-clause-region g c = λ state ready. c.read_stored.ensures.region (region_of state g.L.Compartment.place) (region_held g.L.Compartment.place _ state g.met.L.Named.named ready)

pub returns-clause-kept : goal.returns-clause-kept
returns-clause-kept g c =
    let ready = c.requires.ready.ready in
    kept_if c.read_stored.result (region_of c.requires.ready.state g.L.Compartment.place) (returns-clause-region g c c.requires.ready.state ready) (region_kept g.L.Compartment.place _ c.requires.ready.state g.met.L.Named.named ready)
