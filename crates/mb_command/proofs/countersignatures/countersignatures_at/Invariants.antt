use Rattle.std.specs.Prelude.{◌-◌, ◌≤◌}
use Rattle.mb_model.specs.records.OrderFormat.{countersignature_format, climb_after}
use Rattle.mb_bytes.proofs.Reading.{IsReading}
use Rattle.mb_command.proofs.countersignatures.countersignatures_at.Given as goal

abbrev pub invariant-loop-i : goal.invariant-loop-i
invariant-loop-i l = (l.below ≤ 3) × IsReading countersignature_format climb_after l.count l.i (record { below = l.fn.body.layer; left = l.count }) (record { below = l.below; left = l.count - l.i }) l.list l.initial.cursor l.cursor
