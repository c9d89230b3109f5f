-- The way up a tree from a leaf.
use Rattle.std.proofs.Common.{◌≡◌, ℕ, zero, suc, ◌+◌, ◌/◌, ◌^◌, ◌<◌, List, [], ◌++◌, refl, add-one, arith}
use Rattle.mb_model.specs.declared.key.KeySeed.{KeySeed}
use Rattle.mb_model.specs.signatures.Signing.{node_of, sibling, path_from}

pub path_none : (key : KeySeed) (r : ℕ) → path_from key r 0 ≡ []
unfolding path_from
path_none key r = refl

pub path_next : (key : KeySeed) (r n number : ℕ) (node : List ℕ) → number ≡ sibling (r / 2 ^ n) → node ≡ node_of key number →
    path_from key r (n + 1) ≡ path_from key r n ++ node
unfolding path_from
path_next key r n number node e f = rw (add-one n, f, e) refl

-- below the root
pub above_root : (q level : ℕ) → q < 32 → level < 5 → 1 < (32 + q) / 2 ^ level
above_root q zero h k = omega arith
above_root q (suc zero) h k = omega arith
above_root q (suc (suc zero)) h k = omega arith
above_root q (suc (suc (suc zero))) h k = omega arith
above_root q (suc (suc (suc (suc zero)))) h k = omega arith
above_root q (suc (suc (suc (suc (suc n))))) h k = absurd (omega arith)

pub below_end : (q level : ℕ) → q < 32 → level < 5 → (32 + q) / 2 ^ level < 64
below_end q zero h k = omega arith
below_end q (suc zero) h k = omega arith
below_end q (suc (suc zero)) h k = omega arith
below_end q (suc (suc (suc zero))) h k = omega arith
below_end q (suc (suc (suc (suc zero)))) h k = omega arith
below_end q (suc (suc (suc (suc (suc n))))) h k = absurd (omega arith)

pub ruleset path_bounds = (above_root, below_end)
