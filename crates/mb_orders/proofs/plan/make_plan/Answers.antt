use Rattle.mb_model.proofs.Passed.{passed}
use Rattle.mb_orders.proofs.Plans.{planned, room_for}
use Rattle.mb_orders.proofs.plan.make_plan.Goals as goal

pub bodies-requires-clause-room : goal.bodies-requires-clause-room
bodies-requires-clause-room g c = room_for c.args.view.now c.args.order.now c.fact_of-fact.result c.fact_of-fact.ensures (passed c.requires.passes).log

pub returns-clause-planned : goal.returns-clause-planned
returns-clause-planned g c =
    planned c.args.order.now c.args.draw.now c.args.view.now c.fact_of-fact.result _ c.in_ok-bodies.bodies _ _
    c.fact_of-fact.ensures c.layers_after.ensures c.in_ok-bodies.ensures.bodies c.fate_of.ensures c.fate_of-2.ensures
