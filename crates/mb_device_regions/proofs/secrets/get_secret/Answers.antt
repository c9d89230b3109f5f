use Rattle.mb_device_regions.proofs.Outcomes.{get_told}
use Rattle.mb_device_regions.proofs.secrets.get_secret.Goals as goal

pub returns-in-Ok-clause-told : goal.returns-in-Ok-clause-told
returns-in-Ok-clause-told g c = λ state ready.
    get_told g.L.Compartment.place c.as_slice.result.now c.args.name.now state c.in-Ok.region c.value_in.result _ c.as_slice.ensures (c.in-Ok.ensures.region state ready) c.value_in.ensures ready
