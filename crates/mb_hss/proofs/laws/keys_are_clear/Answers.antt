use Rattle.mb_format.proofs.Whole.{IsClearWhole-from_exact}
use Rattle.mb_hss.specs.ExactFormats.{hss_key_exact, maker_exact}
use Rattle.mb_hss.proofs.laws.keys_are_clear.Goals as goal

pub returns-clause-public : goal.returns-clause-public
returns-clause-public c = IsClearWhole-from_exact hss_key_exact

pub returns-clause-maker : goal.returns-clause-maker
returns-clause-maker c = IsClearWhole-from_exact maker_exact
