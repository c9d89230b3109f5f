-- Laws of signing by a key of types 5 and 3, each proved on a public function. Does what is signed verify?
use Rattle.std.specs.Prelude.{◌≡◌, ◌<◌, ◌≤◌, ℕ, ◌+◌, ◌-◌, ◌*◌, ◌^◌, List, length}
use Rattle.mb_model.specs.declared.key.KeySeed.{KeySeed}
use Rattle.mb_model.specs.signatures.Merkle.{leaf_node, inner_node, leaf_number, Verifies}
use Rattle.mb_model.specs.signatures.Signing.{one_time_public, node_of, public_of, signature_of}

-- the signature of a text at each of the 32 indices verifies under the public key of the same seed
abbrev pub SignaturesVerify : Type 0
SignaturesVerify =
    (key : KeySeed) (q : ℕ) (text : List ℕ) → q < 32 → Verifies (public_of key) text (signature_of key q text)

-- a signature bears the index at which it was made
abbrev pub SignaturesBearTheirIndex : Type 0
SignaturesBearTheirIndex =
    (key : KeySeed) (q : ℕ) (text : List ℕ) → q < 2 ^ 32 → leaf_number (signature_of key q text) ≡ q

-- the nodes 32 to 63 of a tree are the leaves of its one-time keys 0 to 31
abbrev pub LeavesAreOfOneTimeKeys : Type 0
LeavesAreOfOneTimeKeys =
    (key : KeySeed) (r : ℕ) → 32 ≤ r → r < 64
    → node_of key r ≡ leaf_node key.identifier r (one_time_public key (r - 32))

-- the nodes 1 to 31 are hashes of the two nodes under them
abbrev pub InnerNodesHashTwo : Type 0
InnerNodesHashTwo =
    (key : KeySeed) (r : ℕ) → 1 ≤ r → r < 32
    → node_of key r ≡ inner_node key.identifier r (node_of key (2 * r)) (node_of key (2 * r + 1))

-- the identifier has 16 bytes and the seed 32
pub record IsSizedSeed (key : KeySeed) : Type 0 where
  pub identifier : length key.identifier ≡ 16
  pub seed : length key.seed ≡ 32
