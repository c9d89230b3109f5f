use Rattle.mb_tools_fleet.proofs.DevicesLaws.{registers_begin_empty}
use Rattle.mb_tools_fleet.proofs.laws.registers_begin_empty.Goals as goal

pub returns : goal.returns
returns c = registers_begin_empty
