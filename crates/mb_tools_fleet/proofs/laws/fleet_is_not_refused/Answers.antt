use Rattle.mb_tools_fleet.proofs.FleetLemmas.{fleet_not_refused}
use Rattle.mb_tools_fleet.proofs.laws.fleet_is_not_refused.Goals as goal

pub returns : goal.returns
returns c = fleet_not_refused
