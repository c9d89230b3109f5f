-- A leaf of a key's tree, as it is hashed.
use Rattle.std.proofs.Common.{◌≡◌, ℕ, ◌+◌, ◌-◌, List, [], ◌++◌, ap, sym, ◌∙◌, append-nil, arith}
use Rattle.std.specs.Int.{w32, to_be_bytes}
use Rattle.mb_lms.specs.Sha256.{sha256}
use Rattle.mb_model.specs.declared.key.KeySeed.{KeySeed}
use Rattle.mb_model.specs.signatures.Merkle.{leaf_node, leaf_mark}
use Rattle.mb_model.specs.signatures.Signing.{node_of, one_time_public}
use Rattle.mb_model_lemmas.proofs.SignatureLemmas.{node_of-leaf}

leaf_of : (key : KeySeed) (q : ℕ) → node_of key (32 + q) ≡ leaf_node key.identifier (32 + q) (one_time_public key q)
leaf_of key q =
    let same : 32 + q - 32 ≡ q = omega arith in
    node_of-leaf key (32 + q) (omega arith) ∙ ap (λ (n : ℕ). leaf_node key.identifier (32 + q) (one_time_public key n)) same

-- what is hashed for a leaf
pub leaf_hashed : (key : KeySeed) (q : ℕ) (start one result : List ℕ) →
    start ≡ key.identifier ++ to_be_bytes w32 (32 + q) ++ leaf_mark → one ≡ one_time_public key q →
    result ≡ sha256 (start ++ one ++ []) → result ≡ node_of key (32 + q)
unfolding leaf_node
leaf_hashed key q start one result e f hashed =
    hashed ∙ ap sha256 (append-nil (start ++ one) ∙ cc) ∙ sym (leaf_of key q)
