use Rattle.std.proofs.Common.{sym, true≢false}
use Rattle.mb_library.proofs.KeyBytes.{under_hss_key, by_hss_bytes, no_hss_signed}
use Rattle.mb_library.proofs.signatures.mb_hss_verify.Goals as goal

pub returns-in-Ok : goal.returns-in-Ok
returns-in-Ok c = (
  (λ yes. by_hss_bytes _ _ _ _ c.in-Ok.ensures.reads (c.verify.ensures.0 yes)),
  (λ signed. c.verify.ensures.1 (under_hss_key _ _ _ _ c.fits-key c.in-Ok.ensures.reads signed)),
)

pub returns-in-Err : goal.returns-in-Err
returns-in-Err c = (
  (λ no. absurd (true≢false (sym no))),
  (λ signed. absurd (no_hss_signed _ _ _ _ c.fits-key c.in-Err.ensures.reads signed)),
)
