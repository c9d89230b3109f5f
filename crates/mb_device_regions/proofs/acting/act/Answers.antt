use Rattle.mb_device_regions.proofs.Asked.{acted_fits}
use Rattle.mb_device_regions.proofs.acting.act.Goals as goal

pub returns-in-Some-clause-fits : goal.returns-in-Some-clause-fits
returns-in-Some-clause-fits c = acted_fits c.args.number c.args.output.now c.args.region c.in-Some.secrets c.in-Some.answer c.requires.kept (rw c.as_slice.ensures at c.in-Some.ensures)
