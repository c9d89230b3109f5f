use Rattle.std.proofs.Common.{subst, sym, List, ◌≡◌, [], ◌∷◌, ◌++◌, ap, ◌∙◌}
use Rattle.mb_model.specs.declared.order.Order.{Order}
use Rattle.mb_model.specs.declared.order.Target.{Target}
use Rattle.mb_model.specs.declared.order.Target.TheVariants as target
use Rattle.mb_model.specs.records.OrderFormat.{order_format}
use Rattle.mb_generate.proofs.Planning.{targeted_allowed}
use Rattle.mb_generate.proofs.officers.targeted.Goals as goal

pub returns-clause-spelled : goal.returns-clause-spelled
returns-clause-spelled c =
    let targets : c.push.new.self ≡ target.Length c.args.count ∷ [] =
    c.in_ok-push.ensures.ok ∙ ap (λ (ts : List Target). ts ++ target.Length c.args.count ∷ []) c.new-targets.ensures in
    let signature = c.from_vec.ensures ∙ c.new.ensures.items in
    let none = c.new-2.ensures in
    subst (λ (order : Order). order_format.Allowed order)
    (λ i. record {
      layer = c.args.layer;
      targets = sym targets i;
      act = c.args.what;
      signature = sym signature i;
      countersignatures = sym none i;
    })
    (targeted_allowed c.args.layer c.args.count c.args.what c.requires c.ranges.count.fits)
