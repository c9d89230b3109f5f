-- A plan made piece by piece is the plan, and the log has room for it.
use Rattle.std.proofs.Common.{◌≡◌, ℕ, List, refl, sym, subst}
use Rattle.mb_model.specs.declared.layer.Layers.{Layers}
use Rattle.mb_model.specs.declared.order.Act.{Act}
use Rattle.mb_model.specs.declared.order.Act.TheVariants as act
use Rattle.mb_model.specs.declared.order.Order.{Order}
use Rattle.mb_model.specs.declared.state.View.{View}
use Rattle.mb_model.specs.declared.state.Fact.{Fact}
use Rattle.mb_model.specs.declared.state.Bodies.{Bodies}
use Rattle.mb_model.specs.declared.stored.Fate.{Fate}
use Rattle.mb_model.specs.owners.Rules.{kind_of, change_of, renews}
use Rattle.mb_model.specs.machine.OrderChecks.{HasRoomWith, LogHasRoom}
use Rattle.mb_model.specs.machine.OrderEffects.{fact_of, layers_after, names_next}
use Rattle.mb_model.specs.machine.Work.{bodies_by, region_fate}
use Rattle.mb_log.specs.Additions.{HasRoomFor}
use Rattle.mb_orders.specs.Judging.{plan_by}

pub planned : (order : Order) (draw : List ℕ) (view : View) (fact : Fact) (layers : Layers) (bodies : Bodies) (two three : Fate) → fact ≡ fact_of view.layers order order.act → layers ≡ layers_after view.layers fact → bodies ≡ bodies_by view fact draw → two ≡ region_fate view.layers fact bodies.key 2 → three ≡ region_fate view.layers fact bodies.key 3 → record { layers = layers; bodies = bodies; two = two; three = three } ≡ plan_by view order draw
unfolding plan_by
planned order draw view fact layers bodies two three f l b t u = cc

-- ---- room in the log

next_named : (layers : Layers) (order : Order) (does : Act) → names_next (fact_of layers order does) ≡ renews (change_of (kind_of does)) order.layer
next_named layers order (act.Establish owner trust) = refl
next_named layers order act.Surrender = refl
next_named layers order (act.Load payload) = refl
next_named layers order (act.Emergency payload) = refl
next_named layers order (act.NewKey kind) = refl

-- what the order makes true takes as many entries as the order
pub room_for : (view : View) (order : Order) (fact : Fact) → fact ≡ fact_of view.layers order order.act → LogHasRoom view order → HasRoomFor view fact
room_for view order fact is room =
    subst (λ (f : Fact). HasRoomFor view f) (sym is)
    (subst (HasRoomWith view) (sym (next_named view.layers order order.act)) room)
