use Rattle.std.proofs.Common.{◌≡◌, find, drop}
use Rattle.mb_model.specs.machine.LayerEvents.{has_number}
use Rattle.mb_layout_edits.proofs.row.key_of.Given as goal

abbrev pub invariant-loop-key : goal.invariant-loop-key
invariant-loop-key l = find (has_number l.number) (drop l.key-index l.keys) ≡ find (has_number l.number) l.keys
