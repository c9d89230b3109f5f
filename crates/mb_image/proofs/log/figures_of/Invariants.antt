use Rattle.std.proofs.Common.{◌≡◌, take}
use Rattle.mb_model.specs.owners.Log.{figures_of, entries_of}
use Rattle.mb_model.specs.memories.Valid.{EachFollows}
use Rattle.mb_image.proofs.log.figures_of.Given as goal

abbrev pub invariant-loop-signed : goal.invariant-loop-signed
invariant-loop-signed l = EachFollows (take l.signed-index l.log) × (l.figures ≡ figures_of (entries_of (take l.signed-index l.log)))
