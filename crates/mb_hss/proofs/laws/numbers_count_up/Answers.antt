use Rattle.mb_hss.proofs.NumberLemmas.{count_up}
use Rattle.mb_hss.proofs.laws.numbers_count_up.Goals as goal

pub returns : goal.returns
returns c = count_up
