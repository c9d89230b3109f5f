use Rattle.std.proofs.Common.{◌≡◌, ◌+◌, ◌*◌, ◌++◌, length, take}
use Rattle.mb_model.specs.declared.key.KeySeed.{KeySeed}
use Rattle.mb_model.specs.signatures.Signing.{path_from}
use Rattle.mb_signer.specs.Tree.{IsTreeOf}
use Rattle.mb_signer.proofs.signing.put_path.Given as goal

abbrev pub invariant-loop-level : goal.invariant-loop-level
invariant-loop-level l = record {
  path : (key : KeySeed) → IsTreeOf key l.tree → take (2188 + 32 * l.level) l.out ≡ take 2188 l.fn.out ++ path_from key (32 + l.q) l.level;
  sized : length l.out ≡ 2348;
}
