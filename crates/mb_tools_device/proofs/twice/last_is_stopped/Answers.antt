use Rattle.std.proofs.Common.{refl}
use Rattle.mb_tools_device.proofs.TwiceLemmas.{stopped_there}
use Rattle.mb_tools_device.proofs.twice.last_is_stopped.Goals as goal

pub returns-in-Stopped : goal.returns-in-Stopped
returns-in-Stopped c = (λ yes. stopped_there c.args.answered.now c.last-item.result c.in-len3-up.len_at_least c.last-item.is c.in-Stopped.is, λ is. refl)
