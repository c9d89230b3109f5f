use Rattle.mb_tools_fleet.proofs.DevicesLaws.{devices_show_all_rows}
use Rattle.mb_tools_fleet.proofs.laws.devices_show_all_rows.Goals as goal

pub returns : goal.returns
returns c = devices_show_all_rows
