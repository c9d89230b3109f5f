use Rattle.std.proofs.Common.{◌≡◌, take}
use Rattle.mb_model.specs.owners.Log.{entries_of, layers_of}
use Rattle.mb_log.proofs.figures.layers_of.Given as goal

abbrev pub invariant-loop-signed : goal.invariant-loop-signed
invariant-loop-signed l = l.layers ≡ layers_of (entries_of (take l.signed-index l.log))
