use Rattle.std.proofs.Common.{◌≡◌, ◌+◌, ◌*◌, length}
use Rattle.mb_signer.specs.Tree.{IsFilled, joined_above}
use Rattle.mb_signer.proofs.tree.KeptTree.build.Given as goal

abbrev pub invariant-loop-q : goal.invariant-loop-q
invariant-loop-q g l = record {
  filled : IsFilled l.seed l.nodes 5 (32 + l.q);
  sized : length l.nodes ≡ 63;
  counted : l.hashes + 31 ≡ l.fn.hashes + 1074 * l.q + joined_above 5 (32 + l.q);
}
