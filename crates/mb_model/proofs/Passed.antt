-- The checks that an order has passed, by name.
use Rattle.std.specs.Prelude.{All}
use Rattle.mb_model.specs.declared.order.Order.{Order}
use Rattle.mb_model.specs.declared.state.View.{View}
use Rattle.mb_model.specs.machine.OrderChecks.{TargetsHold, MayBeGiven, IsSigned, IsCountersigned, LogHasRoom, RegionHasRoom, Passes}

pub record Passed (view : View) (order : Order) : Type 0 where
  pub targets : TargetsHold view order
  pub condition : MayBeGiven view order
  pub signature : IsSigned view order
  pub countersignatures : All (IsCountersigned view order) order.countersignatures
  pub log : LogHasRoom view order
  pub keys : RegionHasRoom view order.layer order.act

pub passed : {view : View} {order : Order} → Passes view order → Passed view order
passed {view} {order} passes =
    let (targets, (condition, (signature, (countersignatures, (log, (keys, _)))))) = passes.each in
    record {
      targets = targets;
      condition = condition;
      signature = signature;
      countersignatures = countersignatures;
      log = log;
      keys = keys;
    }

pub passes_by : {view : View} {order : Order} → Passed view order → Passes view order
passes_by {view} {order} its = record {
  each = (its.targets, (its.condition, (its.signature, (its.countersignatures, (its.log, (its.keys, tt))))));
}
