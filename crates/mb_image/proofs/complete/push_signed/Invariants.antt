use Rattle.std.proofs.Common.{◌≡◌, ◌≤◌, ◌+◌, ◌*◌, ◌++◌, map, take}
use Rattle.mb_model.specs.machine.OrderEffects.{entry_signed_by}
use Rattle.mb_image.proofs.complete.push_signed.Given as goal

abbrev pub invariant-loop-entry : goal.invariant-loop-entry
invariant-loop-entry g l = (l.log ≡ l.fn.log ++ map (entry_signed_by l.key l.index) (take l.entry-index l.entries)) × (l.hashes ≤ l.fn.hashes + 1074 * l.entry-index)
