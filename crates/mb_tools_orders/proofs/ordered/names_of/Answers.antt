use Rattle.std.proofs.Common.{ℕ, List, codes, refl, subst, ◌∙◌}
use Rattle.mb_model.specs.machine.SignedTexts.{order_text}
use Rattle.mb_tools_orders.specs.Ordered.{signatures_of}
use Rattle.mb_tools_orders.specs.Telling.{AppendsNames}
use Rattle.mb_tools_orders.proofs.Telling.{all_named}
use Rattle.mb_tools_orders.proofs.ordered.names_of.Goals as goal

pub returns : goal.returns
unfolding order_text
returns c =
    subst (λ (old : List ℕ). AppendsNames c.args.key.now (signatures_of c.args.order.now) old c.put_names.new.out.items) c.new-out.ensures.items
    (all_named c.args.key.now c.args.order.now c.as_slice.result.now c.as_slice-2.result.now c.as_slice-signature.result.now c.as_slice-above.result.now (codes "in charge\n")
    c.new-out.result.items c.put_if_verified.new.out.items c.put_names.new.out.items
    (c.as_slice.ensures ∙ c.in_ok-body.ensures) (c.as_slice-2.ensures ∙ c.in_ok-body.ensures) c.as_slice-signature.ensures c.as_slice-above.ensures refl
    c.in_ok-put_if_verified.ensures c.in_ok-put_names.ensures)
