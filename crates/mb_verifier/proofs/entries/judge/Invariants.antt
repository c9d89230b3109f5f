-- The entries so far are good, and the figures and the life are theirs.
use Rattle.std.proofs.Common.{◌≡◌, take}
use Rattle.mb_model.specs.owners.Log.{figures_of, entries_of}
use Rattle.mb_model.specs.chains.Acceptance.{AreGood}
use Rattle.mb_log.specs.KeyLife.{IsLifeOf}
use Rattle.mb_verifier.proofs.entries.judge.Given as goal

abbrev pub invariant-loop-signed : goal.invariant-loop-signed
invariant-loop-signed l = record {
  good : AreGood l.maker (take l.signed-index l.log);
  figures : l.figures ≡ figures_of (entries_of (take l.signed-index l.log));
  life : IsLifeOf (entries_of (take l.signed-index l.log)) l.key l.life;
}
