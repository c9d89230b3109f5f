use Rattle.std.proofs.Common.{◌≡◌, Err, true≢false, refl, sym, ap, ◌∙◌}
use Rattle.mb_model.specs.records.OrderFormat.{order_body}
use Rattle.mb_model.specs.machine.SignedOrders.{IsCountersignable}
use Rattle.mb_model_commands.specs.Cosign.{cosign}
use Rattle.mb_console.proofs.Leading.{begins, reads, chooses_first, chooses_second, stops_at_input, is_refused, lacks_memory}
use Rattle.mb_tools.proofs.SignLemmas.{never_both, key_signed, key_not_signed}
use Rattle.mb_tools_orders.proofs.cosign.cosign.Goals as goal

pub returns-in_err-key-clause-carried : goal.returns-in_err-key-clause-carried
unfolding cosign
returns-in_err-key-clause-carried g c = λ final. stops_at_input _ _ _ begins c.from_residual.ensures.1 c.in_err-key.ensures.err refl refl

pub returns-in_err-order-clause-carried : goal.returns-in_err-order-clause-carried
unfolding cosign
returns-in_err-order-clause-carried g c = λ final. stops_at_input _ _ _ (reads begins c.in_ok-key.ensures.read) c.from_residual-in_err-order.ensures.1 c.in_err-order.ensures.err refl refl

pub returns-in_err-drafted-clause-carried : goal.returns-in_err-drafted-clause-carried
unfolding cosign
returns-in_err-drafted-clause-carried g c = λ final.
    stops_at_input _ _ _ (reads (reads begins c.in_ok-key.ensures.read) c.in_ok-order.ensures.read) c.from_residual-in_err-drafted.ensures.1 c.in_err-drafted.ensures.err refl refl

pub returns-then-not-is_countersignable-clause-carried : goal.returns-then-not-is_countersignable-clause-carried
unfolding cosign
returns-then-not-is_countersignable-clause-carried g c = λ final.
    let drafted = reads (reads (reads begins c.in_ok-key.ensures.read) c.in_ok-order.ensures.read) c.in_ok-drafted.ensures.read in
    let never : IsCountersignable c.in_ok-order.order c.args.names.now.layer → ⊥ = λ can. true≢false (sym (c.is_countersignable.ensures.1 can) ∙ c.if-not-is_countersignable.true) in
    is_refused (chooses_first drafted never) refl _ c.refused.ensures

pub returns-in_default-clause-carried : goal.returns-in_default-clause-carried
unfolding cosign
returns-in_default-clause-carried g c = λ final.
    lacks_memory (reads (reads (reads begins c.in_ok-key.ensures.read) c.in_ok-order.ensures.read) c.in_ok-drafted.ensures.read) tt refl refl

pub returns-then-not-same-clause-carried : goal.returns-then-not-same-clause-carried
unfolding cosign
returns-then-not-same-clause-carried g c = λ final.
    let drafted = reads (reads (reads begins c.in_ok-key.ensures.read) c.in_ok-order.ensures.read) c.in_ok-drafted.ensures.read in
    let can : (IsCountersignable c.in_ok-order.order c.args.names.now.layer → ⊥) → ⊥ = λ never. never (c.is_countersignable.ensures.0 c.if-not-is_countersignable.false) in
    let apart : order_body c.in_ok-drafted.drafted ≡ order_body c.in_ok-order.order → ⊥ = λ same. true≢false (sym (c.in-Ok.ensures.1 same) ∙ c.if-not-same.true) in
    is_refused {mid = g.H.Host.outside c.read_as-3.new.host} (chooses_second (chooses_second drafted can) apart) refl _ c.refused-then-not-same.ensures

pub returns-in-Ok-countersign-clause-carried : goal.returns-in-Ok-countersign-clause-carried
unfolding cosign
returns-in-Ok-countersign-clause-carried g c = λ final.
    let drafted = reads (reads (reads begins c.in_ok-key.ensures.read) c.in_ok-order.ensures.read) c.in_ok-drafted.ensures.read in
    let takes = c.is_countersignable.ensures.0 c.if-not-is_countersignable.false in
    let can : (IsCountersignable c.in_ok-order.order c.args.names.now.layer → ⊥) → ⊥ = λ never. never takes in
    let same = c.in-Ok.ensures.0 c.if-not-same.false in
    let signed = c.in-Ok-countersign.ensures.signed in
    key_signed _ _ _ _ _ _ c.in-Ok-countersign.index _ _ (chooses_first (chooses_second {mid = g.H.Host.outside c.read_as-3.new.host} drafted can) same)
    (λ spent. never_both c.in-Ok-countersign.index (c.in-Ok-countersign.ensures.spent.1 (takes, spent))) signed.1 signed.0 signed.2 c.use_index.ensures

pub returns-clause-carried : goal.returns-clause-carried
unfolding cosign
returns-clause-carried g c = λ final.
    let drafted = reads (reads (reads begins c.in_ok-key.ensures.read) c.in_ok-order.ensures.read) c.in_ok-drafted.ensures.read in
    let takes = c.is_countersignable.ensures.0 c.if-not-is_countersignable.false in
    let can : (IsCountersignable c.in_ok-order.order c.args.names.now.layer → ⊥) → ⊥ = λ never. never takes in
    let same = c.in-Ok.ensures.0 c.if-not-same.false in
    key_not_signed {mid = g.H.Host.outside c.read_as-3.new.host} _ _ _ _ c.in-Err.end _ (chooses_first (chooses_second drafted can) same) (λ is. (c.in-Err.ensures.spent.0 (ap Err is)).1)
    (λ is. c.in-Err.ensures.countersignable.0 (ap Err is) takes) c.end_of.ensures
