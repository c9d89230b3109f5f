-- The figures are those of the entries so far.
use Rattle.std.proofs.Common.{◌≡◌, take}
use Rattle.mb_model.specs.owners.Log.{figures_of, entries_of}
use Rattle.mb_log.proofs.figures.figures_of.Given as goal

abbrev pub invariant-loop-signed : goal.invariant-loop-signed
invariant-loop-signed l = l.figures ≡ figures_of (entries_of (take l.signed-index l.log))
