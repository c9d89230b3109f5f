use Rattle.std.proofs.Common.{Err, refl, ap}
use Rattle.mb_model.specs.machine.SignedOrders.{IsCountersignable}
use Rattle.mb_model_commands.specs.Sign.{countersign}
use Rattle.mb_console.proofs.Leading.{begins, reads, chooses_second, stops_at_input}
use Rattle.mb_tools.specs.Names.{countersign_files}
use Rattle.mb_tools.proofs.SignLemmas.{never_both, key_signed, order_not_signed}
use Rattle.mb_tools.proofs.sign.countersign.Goals as goal

pub returns-in_err-key-clause-carried : goal.returns-in_err-key-clause-carried
unfolding countersign
returns-in_err-key-clause-carried g c = λ final. stops_at_input _ _ _ begins c.from_residual.ensures.1 c.in_err-key.ensures.err refl refl

pub returns-in_err-order-clause-carried : goal.returns-in_err-order-clause-carried
unfolding countersign
returns-in_err-order-clause-carried g c = λ final. stops_at_input _ _ _ (reads begins c.in_ok-key.ensures.read) c.from_residual-in_err-order.ensures.1 c.in_err-order.ensures.err refl refl

pub returns-in-Ok-clause-carried : goal.returns-in-Ok-clause-carried
unfolding countersign
returns-in-Ok-clause-carried g c = λ final.
    let order = reads (reads begins c.in_ok-key.ensures.read) c.in_ok-order.ensures.read in
    let signed = c.in-Ok.ensures.signed in
    let can = λ (never : IsCountersignable c.in_ok-order.order c.args.names.now.layer → ⊥). never_both c.in-Ok.index (c.in-Ok.ensures.countersignable.1 never) in
    key_signed _ _ _ _ _ _ c.in-Ok.index _ _ (chooses_second {mid = g.H.Host.outside c.read_as-2.new.host} order can) (λ spent. can (λ takes. never_both c.in-Ok.index (c.in-Ok.ensures.spent.1 (takes, spent)))) signed.1 signed.0 signed.2 c.use_index.ensures

pub returns-clause-carried : goal.returns-clause-carried
unfolding countersign
returns-clause-carried g c = λ final.
    let order = reads (reads begins c.in_ok-key.ensures.read) c.in_ok-order.ensures.read in
    order_not_signed (countersign_files c.args.names.now) _ _ c.in-Err.end _ order (λ is. c.in-Err.ensures.spent.0 (ap Err is)) (λ is. c.in-Err.ensures.countersignable.0 (ap Err is)) c.end_of.ensures
