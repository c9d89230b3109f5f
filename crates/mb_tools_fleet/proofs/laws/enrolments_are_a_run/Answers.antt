use Rattle.mb_tools_fleet.proofs.EnrolLaws.{enrolments_are_a_run}
use Rattle.mb_tools_fleet.proofs.laws.enrolments_are_a_run.Goals as goal

pub returns : goal.returns
returns c = enrolments_are_a_run
