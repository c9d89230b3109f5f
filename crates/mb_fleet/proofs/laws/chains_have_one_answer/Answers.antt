use Rattle.mb_fleet.proofs.Determined.{chains_have_one_answer}
use Rattle.mb_fleet.proofs.laws.chains_have_one_answer.Goals as goal

pub returns : goal.returns
returns c = chains_have_one_answer
