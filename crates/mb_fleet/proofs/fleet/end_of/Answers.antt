use Rattle.mb_fleet.proofs.Rowing.{other_end}
use Rattle.mb_fleet.proofs.fleet.end_of.Goals as goal

pub returns-in_default : goal.returns-in_default
returns-in_default c = other_end c.args.refusal c.in_default.not-NoMemory
