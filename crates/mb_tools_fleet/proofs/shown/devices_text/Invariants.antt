use Rattle.std.proofs.Common.{◌≡◌, ◌++◌, take}
use Rattle.std.specs.Prelude.{map}
use Rattle.mb_model.specs.chains.Lines.{text_of}
use Rattle.mb_tools_fleet.specs.RegisterCommands.{row_line}
use Rattle.mb_tools_fleet.proofs.shown.devices_text.Given as goal

abbrev pub invariant-loop-row : goal.invariant-loop-row
invariant-loop-row l = l.text.items ≡ l.initial.text.items ++ text_of (map row_line (take l.row-index l.rows))
