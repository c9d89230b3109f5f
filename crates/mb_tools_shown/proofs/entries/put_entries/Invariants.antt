use Rattle.std.proofs.Common.{◌≡◌, ◌++◌, take}
use Rattle.std.specs.Prelude.{flat_map}
use Rattle.mb_model.specs.owners.Log.{entries_of}
use Rattle.mb_model.specs.chains.Lines.{text_of}
use Rattle.mb_tools_shown.specs.HistoryShown.{entry_lines}
use Rattle.mb_tools_shown.proofs.entries.put_entries.Given as goal

abbrev pub invariant-loop-signed : goal.invariant-loop-signed
invariant-loop-signed l = l.out.items ≡ l.initial.out.items ++ text_of (flat_map entry_lines (entries_of (take l.signed-index l.log)))
