use Rattle.std.specs.Prelude.{◌+◌, ◌-◌, ◌≤◌}
use Rattle.mb_format.specs.Combinators.{items}
use Rattle.mb_model.specs.records.OrderFormat.{countersignature_format, climb_after}
use Rattle.mb_command.proofs.SurveyLoops.{Leads}
use Rattle.mb_command.proofs.survey.survey_countersignatures.Given as goal

abbrev pub invariant-loop-i : goal.invariant-loop-i
invariant-loop-i l = (l.below + (l.count - l.i) ≤ 3) × Leads (items countersignature_format climb_after l.count (record { below = l.fn.heading.layer; left = l.count })) l.initial.cursor (items countersignature_format climb_after (l.count - l.i) (record { below = l.below; left = l.count - l.i })) l.cursor
