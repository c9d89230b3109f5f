use Rattle.std.proofs.Common.{◌≡◌, ◌+◌, ◌*◌, ◌≤◌, ◌++◌, length, take}
use Rattle.mb_model.specs.signatures.Signing.{signed_values}
use Rattle.mb_signer.proofs.signing.put_values.Given as goal

abbrev pub invariant-loop-chain : goal.invariant-loop-chain
invariant-loop-chain g l = record {
  values : take (40 + 32 * l.chain) l.out ≡ take 40 l.fn.out ++ signed_values l.seed l.q l.digits l.chain;
  sized : length l.out ≡ 2348;
  cost : l.hashes ≤ l.fn.hashes + 16 * l.chain;
}
