use Rattle.std.proofs.Common.{subst}
use Rattle.mb_device.specs.declared.device.Device.{Device}
use Rattle.mb_device.specs.Sound.{Fits}
use Rattle.mb_device.proofs.Told.{status_told}
use Rattle.mb_device.proofs.device.Device.status.Goals as goal

pub returns-in-One-clause-told : goal.returns-in-One-clause-told
returns-in-One-clause-told c = λ flash world fits valid. status_told flash world 1 c.in-One.running c.running_status.result c.running_status.ensures (subst (λ (d : Device). Fits d flash world) c.in-One.is fits) valid

pub returns-in-Two-clause-told : goal.returns-in-Two-clause-told
returns-in-Two-clause-told c = λ flash world fits valid. status_told flash world 2 c.in-Two.running c.running_status-in-Two.result c.running_status-in-Two.ensures (subst (λ (d : Device). Fits d flash world) c.in-Two.is fits) valid

pub returns-in-Three-clause-told : goal.returns-in-Three-clause-told
returns-in-Three-clause-told c = λ flash world fits valid. status_told flash world 3 c.in-Three.running c.running_status-in-Three.result c.running_status-in-Three.ensures (subst (λ (d : Device). Fits d flash world) c.in-Three.is fits) valid
