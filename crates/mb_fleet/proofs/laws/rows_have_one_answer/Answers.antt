use Rattle.mb_fleet.proofs.Determined.{rows_have_one_answer}
use Rattle.mb_fleet.proofs.laws.rows_have_one_answer.Goals as goal

pub returns : goal.returns
returns c = rows_have_one_answer
