use Rattle.std.specs.Prelude.{◌-◌}
use Rattle.mb_format.specs.Combinators.{times}
use Rattle.mb_model.specs.records.OrderFormat.{target_format}
use Rattle.mb_command.proofs.SurveyLoops.{Leads}
use Rattle.mb_command.proofs.survey_body.survey_targets.Given as goal

abbrev pub invariant-loop-i : goal.invariant-loop-i
invariant-loop-i l = Leads (times l.count target_format) l.initial.cursor (times (l.count - l._i) target_format) l.cursor
