use Rattle.std.proofs.Common.{Err, refl, ap}
use Rattle.mb_model_commands.specs.Sign.{sign}
use Rattle.mb_console.proofs.Leading.{begins, reads, stops_at_input}
use Rattle.mb_tools.proofs.SignLemmas.{never_both, key_signed, key_not_signed}
use Rattle.mb_tools.proofs.sign.sign.Goals as goal

pub returns-in_err-key-clause-carried : goal.returns-in_err-key-clause-carried
unfolding sign
returns-in_err-key-clause-carried g c = λ final. stops_at_input _ _ _ begins c.from_residual.ensures.1 c.in_err-key.ensures.err refl refl

pub returns-in_err-order-clause-carried : goal.returns-in_err-order-clause-carried
unfolding sign
returns-in_err-order-clause-carried g c = λ final. stops_at_input _ _ _ (reads begins c.in_ok-key.ensures.read) c.from_residual-in_err-order.ensures.1 c.in_err-order.ensures.err refl refl

pub returns-in-Ok-clause-carried : goal.returns-in-Ok-clause-carried
unfolding sign
returns-in-Ok-clause-carried g c = λ final.
    let order = reads (reads begins c.in_ok-key.ensures.read) c.in_ok-order.ensures.read in
    let signed = c.in-Ok.ensures.signed in
    key_signed _ _ _ _ _ _ c.in-Ok.index _ _ order (λ spent. never_both c.in-Ok.index (c.in-Ok.ensures.spent.1 spent)) signed.1 signed.0 signed.2 c.use_index.ensures

pub returns-clause-carried : goal.returns-clause-carried
unfolding sign
returns-clause-carried g c = λ final.
    let order = reads (reads begins c.in_ok-key.ensures.read) c.in_ok-order.ensures.read in
    key_not_signed _ _ _ _ c.in-Err.end _ order (λ is. c.in-Err.ensures.spent.0 (ap Err is)) (λ is. c.in-Err.ensures.countersignable (ap Err is)) c.end_of.ensures
