use Rattle.std.proofs.Common.{◌≡◌, ◌≤◌, ◌+◌, ◌*◌, map, take}
use Rattle.mb_model.specs.memories.Valid.{as_made}
use Rattle.mb_image.specs.Keys.{listed_keys}
use Rattle.mb_image.proofs.regions.are_alive.Given as goal

abbrev pub invariant-loop-at : goal.invariant-loop-at
invariant-loop-at g l = (map as_made (take l.at l.keys) ≡ listed_keys (take l.at l.alive)) × (l.hashes ≤ l.fn.hashes + 34399 * l.at)
