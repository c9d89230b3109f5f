-- The secrets so far are listed.
use Rattle.std.proofs.Common.{◌≡◌, take}
use Rattle.mb_device_regions.specs.Demands.{shown_secrets}
use Rattle.mb_device_regions.proofs.listed.list.Given as goal

abbrev pub invariant-loop-secret : goal.invariant-loop-secret
invariant-loop-secret l = shown_secrets l.listed.items ≡ take l.secret-index l.secrets
