use Rattle.std.proofs.Common.{◌≡◌, length, map, take}
use Rattle.std.specs.List.{All}
use Rattle.mb_layout.specs.Bounds.{HasByteUses}
use Rattle.mb_layout_edits.proofs.Rows.{once_more}
use Rattle.mb_layout_edits.proofs.row.used_keys.Given as goal

abbrev pub invariant-loop-key : goal.invariant-loop-key
invariant-loop-key l = (All HasByteUses l.fn.keys → l.used ≡ map (once_more l.fn.number) (take l.key-index l.fn.keys)) × (length l.used ≡ l.key-index)
