-- What is left of the demands, done on the secrets so far, is all of them, done on the secrets before.
use Rattle.std.proofs.Common.{◌≡◌, length, All}
use Rattle.mb_model.specs.machine.Actions.{demand_format}
use Rattle.mb_appvm.specs.Asking.{demands_of}
use Rattle.mb_device_regions.specs.Demands.{shown_secrets, AreKept, secrets_after_all}
use Rattle.mb_device_regions.proofs.demands.meet_all.Given as goal

abbrev pub decreases-loop-demand : goal.decreases-loop-demand
decreases-loop-demand l = length (demands_of l.demands)

abbrev pub invariant-loop-demand : goal.invariant-loop-demand
invariant-loop-demand l = record {
  same : secrets_after_all l.fn.number (demands_of l.demands) (shown_secrets l.listed.items) ≡ secrets_after_all l.fn.number (demands_of l.initial.demands) (shown_secrets l.initial.listed.items);
  kept : AreKept (shown_secrets l.listed.items);
  allowed : All demand_format.Allowed (demands_of l.demands);
}
