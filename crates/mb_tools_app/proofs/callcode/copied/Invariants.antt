-- The secrets so far are copied.
use Rattle.std.proofs.Common.{◌≡◌, take}
use Rattle.mb_device_regions.specs.Demands.{shown_secrets}
use Rattle.mb_tools_app.proofs.callcode.copied.Given as goal

abbrev pub invariant-loop-secret : goal.invariant-loop-secret
invariant-loop-secret l = l.copies ≡ shown_secrets (take l.secret-index l.secrets)
