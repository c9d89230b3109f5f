-- The secrets so far are there, and there is memory for all others.
use Rattle.std.proofs.Common.{◌≡◌, ◌≤◌, ◌+◌, take, vec_len, vec_capacity}
use Rattle.mb_device_regions.specs.Demands.{shown_secrets}
use Rattle.mb_device_regions.proofs.reserve.Spare.fill.Given as goal

abbrev pub invariant-loop-shown : goal.invariant-loop-shown
invariant-loop-shown l = record {
  made : l.secrets.items ≡ shown_secrets (take l.shown-index l.listed.items);
  count : vec_len l.secrets ≡ l.shown-index;
  pairs : vec_len l.pairs + l.shown-index ≡ 22;
  room : 22 ≤ vec_capacity l.secrets;
}
