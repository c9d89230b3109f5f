use Rattle.std.proofs.Common.{◌≡◌, ◌+◌, ◌*◌, length, take}
use Rattle.mb_model.specs.signatures.Signing.{public_ends}
use Rattle.mb_signer.proofs.one_time.public_ends.Given as goal

abbrev pub invariant-loop-chain : goal.invariant-loop-chain
invariant-loop-chain g l = record {
  ends : take (32 * l.chain) l.ends ≡ public_ends l.seed l.q l.chain;
  sized : length l.ends ≡ 2144;
  counted : l.hashes ≡ l.fn.hashes + 16 * l.chain;
}
