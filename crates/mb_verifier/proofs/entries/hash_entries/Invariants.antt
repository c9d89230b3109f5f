-- The entries so far are good, and the figures and the hashes are theirs.
use Rattle.std.proofs.Common.{◌≡◌, map, take}
use Rattle.mb_model.specs.owners.Log.{figures_of, entries_of}
use Rattle.mb_model.specs.records.EntryFormat.{entry_hash}
use Rattle.mb_model.specs.chains.Acceptance.{AreGood}
use Rattle.mb_verifier.proofs.entries.hash_entries.Given as goal

abbrev pub invariant-loop-signed : goal.invariant-loop-signed
invariant-loop-signed l = record {
  good : AreGood l.maker (take l.signed-index l.log);
  figures : l.figures ≡ figures_of (entries_of (take l.signed-index l.log));
  hashes : l.hashes ≡ map entry_hash (entries_of (take l.signed-index l.log));
}
