use Rattle.std.proofs.Common.{rules, ◌≡◌, ℕ, List, inl, inr, sym, ap, subst}
use Prim.{search}
use Rattle.mb_model.specs.declared.order.Countersignature.{Countersignature}
use Rattle.mb_model.specs.declared.reply.OrderRefusal.TheVariants.{WrongCountersignature}
use Rattle.mb_model.specs.owners.Rules.{IsFirstFailing}
use Rattle.mb_model.specs.machine.OrderChecks.{IsCountersigned, each_check}
use Rattle.mb_orders.specs.Judging.{IsCountersignedOver}
use Rattle.mb_orders.proofs.checks.check.Goals as goal

pub returns-in-Some-countersignature_fails : goal.returns-in-Some-countersignature_fails
returns-in-Some-countersignature_fails c =
    let layer = c.in-Some-countersignature_fails.layer in
    let failing : (i : ℕ) × (by : Countersignature) × (by.layer ≡ layer) × IsFirstFailing (IsCountersigned c.args.view.now c.args.order.now) c.args.order.now.countersignatures i by =
    subst (λ (body : List ℕ). (i : ℕ) × (by : Countersignature) × (by.layer ≡ layer) × IsFirstFailing (IsCountersignedOver c.args.view.now.layers body) c.args.order.now.countersignatures i by) c.requires.body c.in-Some-countersignature_fails.ensures in
    let wrong : (each_check c.args.order.now.countersignatures (IsCountersigned c.args.view.now c.args.order.now) (λ index by. WrongCountersignature by.layer)).IsRefusal (WrongCountersignature layer) =
    (failing.0, failing.1, ap (λ (l : ℕ). WrongCountersignature l) (sym failing.2), failing.3)
    in
    search (rules, wrong) depth 20
