use Rattle.std.proofs.Common.{◌≡◌, take}
use Rattle.mb_model.specs.owners.Lives.{alive_keys}
use Rattle.mb_model.specs.owners.Log.{entries_of}
use Rattle.mb_image.specs.Keys.{listed_keys}
use Rattle.mb_image.proofs.alive.alive_keys.Given as goal

abbrev pub invariant-loop-signed : goal.invariant-loop-signed
invariant-loop-signed l = listed_keys l.alive.items ≡ alive_keys (entries_of (take l.signed-index l.log)) l.layer
