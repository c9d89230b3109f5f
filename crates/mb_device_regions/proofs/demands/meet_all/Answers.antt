use Rattle.mb_appvm.specs.Asking.{demand_of, demands_of}
use Rattle.mb_device_regions.specs.Demands.{shown_secrets}
use Rattle.mb_device_regions.proofs.Asked.{first_allowed, later_allowed, goes_on, stops, all_met}
use Rattle.mb_device_regions.proofs.demands.meet_all.Goals as goal

pub meet-requires-clause-demand : goal.meet-requires-clause-demand
meet-requires-clause-demand c =
    first_allowed (demands_of c.loop-demand.demands) (demands_of c.take.new.self) (demand_of c.in-Some.demand) c.in-Some.ensures c.loop-demand.invariant.allowed

pub returns-then-not-meet : goal.returns-then-not-meet
returns-then-not-meet c =
    stops c.args.number (demands_of c.loop-demand.demands) (demands_of c.take.new.self) (demand_of c.in-Some.demand) (shown_secrets c.loop-demand.listed.items) _ c.in-Some.ensures c.loop-demand.invariant.same c.if-not-meet.ensures

pub loop-demand-preserved : goal.loop-demand-preserved
loop-demand-preserved c = record {
  same =
      goes_on c.args.number (demands_of c.loop-demand.demands) (demands_of c.take.new.self) (demand_of c.in-Some.demand) (shown_secrets c.loop-demand.listed.items) (shown_secrets c.meet.new.listed.items) _
      c.in-Some.ensures c.loop-demand.invariant.same c.if-not-meet.ensures.0;
  kept = c.if-not-meet.ensures.1;
  allowed = later_allowed (demands_of c.loop-demand.demands) (demands_of c.take.new.self) (demand_of c.in-Some.demand) c.in-Some.ensures c.loop-demand.invariant.allowed;
}

pub returns : goal.returns
returns c = (
  all_met c.args.number (demands_of c.loop-demand.demands) (shown_secrets c.loop-demand.listed.items) _ c.in_default.ensures c.loop-demand.invariant.same,
  c.loop-demand.invariant.kept,
)
