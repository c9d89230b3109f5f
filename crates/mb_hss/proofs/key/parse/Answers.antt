use Rattle.mb_format.proofs.Whole.{IsClearWhole-from_exact}
use Rattle.mb_hss.specs.ExactFormats.{hss_key_exact}
use Rattle.mb_hss.proofs.key.parse.Goals as goal

pub returns-in-Err : goal.returns-in-Err
returns-in-Err c = λ key spells.
    (IsClearWhole-from_exact hss_key_exact).never_both c.args.bytes.now key _ c.fits-bytes spells c.in-Err.ensures.reads
