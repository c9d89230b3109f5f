use Rattle.mb_fleet.proofs.ClearItems.{items_are_clear}
use Rattle.mb_fleet.proofs.laws.items_are_clear.Goals as goal

pub returns : goal.returns
returns c = items_are_clear
