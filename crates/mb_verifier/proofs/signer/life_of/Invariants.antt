-- The figures and the life are those of the entries so far.
use Rattle.std.proofs.Common.{◌≡◌, take}
use Rattle.mb_model.specs.owners.Log.{figures_of, entries_of, RuledLog}
use Rattle.mb_log.specs.KeyLife.{IsLifeOf}
use Rattle.mb_verifier.proofs.signer.life_of.Given as goal

abbrev pub invariant-loop-signed : goal.invariant-loop-signed
invariant-loop-signed l = record {
  figures : l.figures ≡ figures_of (entries_of (take l.signed-index l.log));
  life : RuledLog (entries_of l.log) → IsLifeOf (entries_of (take l.signed-index l.log)) l.fn.key l.life;
}
