use Rattle.std.proofs.Common.{◌≡◌, length}
use Rattle.mb_model.specs.records.RootFormat.{region_key_format}
use Rattle.mb_bytes.proofs.Reading.{IsReading}
use Rattle.mb_layout_edits.proofs.row.key_row_at.Given as goal

abbrev pub invariant-loop-i : goal.invariant-loop-i
invariant-loop-i l = IsReading (λ (u : Unit {0}). region_key_format) (λ u a. u) l.count l._i tt tt l.keys l.initial.cursor l.cursor × (length l.keys ≡ l._i)
