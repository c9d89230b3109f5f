use Rattle.mb_device_regions.proofs.Outcomes.{secret_is}
use Rattle.mb_device_regions.proofs.secrets.secret_with.Goals as goal

pub returns : goal.returns
returns c = secret_is c.args.number c.requires.name c.requires.value c.ranges.number.fits c.in_ok-copy.ensures c.as_slice.ensures c.in_ok-copy-2.ensures c.as_slice-2.ensures
