use Rattle.mb_fleet.proofs.ClearItems.{inputs_are_clear}
use Rattle.mb_fleet.proofs.laws.fleet_inputs_are_clear.Goals as goal

pub returns : goal.returns
returns c = inputs_are_clear
