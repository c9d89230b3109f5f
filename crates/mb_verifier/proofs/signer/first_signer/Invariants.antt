-- None of the entries so far makes a key that signed the statement.
use Rattle.std.proofs.Common.{take}
use Rattle.mb_model.specs.owners.Log.{entries_of}
use Rattle.mb_verifier.proofs.SignerLemmas.{NoneSigned}
use Rattle.mb_verifier.proofs.signer.first_signer.Given as goal

abbrev pub invariant-loop-signed : goal.invariant-loop-signed
invariant-loop-signed l = NoneSigned (entries_of l.log) l.statement (entries_of (take l.signed-index l.log))
