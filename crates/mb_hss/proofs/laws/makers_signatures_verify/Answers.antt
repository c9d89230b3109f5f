use Rattle.mb_hss.proofs.VerifyLemmas.{makers_verify}
use Rattle.mb_hss.proofs.laws.makers_signatures_verify.Goals as goal

pub returns : goal.returns
returns c = makers_verify
