use Rattle.mb_hss.proofs.NumberLemmas.{one_text}
use Rattle.mb_hss.proofs.laws.indices_serve_one_text.Goals as goal

pub returns : goal.returns
returns c = one_text
