-- The result of judging an order, by the first check that it fails, and the plan of one that passes. Are they what the
-- rules say?
use Rattle.std.specs.Prelude.{List, ℕ, Result, Ok, Err}
use Rattle.mb_model.specs.declared.layer.Layers.{Layers}
use Rattle.mb_model.specs.declared.order.Countersignature.{Countersignature}
use Rattle.mb_model.specs.declared.order.Order.{Order}
use Rattle.mb_model.specs.declared.state.View.{View}
use Rattle.mb_model.specs.owners.Layers.{layer_of}
use Rattle.mb_model.specs.owners.Rules.{authority}
use Rattle.mb_model.specs.machine.SignedTexts.{order_text, countersigned_text, IsSignedBy}
use Rattle.mb_model.specs.declared.reply.OrderRefusal.{OrderRefusal}
use Rattle.mb_model.specs.machine.OrderChecks.{change_by, Passes, Fails}
use Rattle.mb_model.specs.machine.OrderEffects.{fact_of, layers_after}
use Rattle.mb_model.specs.machine.Work.{bodies_by, region_fate}
use Rattle.mb_orders.specs.declared.plan.Plan.{Plan}

-- the owner in charge signed the order, which has this body
abbrev pub IsSignedOver : Layers → Order → List ℕ → Type 0
IsSignedOver layers order body =
    IsSignedBy (authority layers (change_by order) order.layer) (order_text body) order.signature

-- the owner of its layer gave this countersignature of the order with this body
abbrev pub IsCountersignedOver : Layers → List ℕ → Countersignature → Type 0
IsCountersignedOver layers body by =
    IsSignedBy (layer_of layers by.layer).owner (countersigned_text by.layer body) by.signature

-- the result of the checks: the order passes them all, or is refused for the first that it fails
abbrev pub ChecksBy : View → Order → Result (Unit {0}) OrderRefusal → Type 0
ChecksBy view order (Ok passed) = Passes view order
ChecksBy view order (Err refusal) = Fails view order refusal

-- the effect of an order that passes every check
unfoldable pub plan_by : View → Order → List ℕ → Plan
plan_by view order draw =
    let fact = fact_of view.layers order order.act in
    let bodies = bodies_by view fact draw in
    record {
      layers = layers_after view.layers fact;
      bodies = bodies;
      two = region_fate view.layers fact bodies.key 2;
      three = region_fate view.layers fact bodies.key 3;
    }
