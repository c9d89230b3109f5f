-- Signing with a key of types 5 and 3, all of whose values are derived from its seed (RFC 8554, sections 4, 5 and
-- appendix A). Which bytes are the one signature of a text at an index?
use Rattle.std.specs.Prelude.{ℕ, zero, suc, ◌+◌, ◌-◌, ◌*◌, ◌/◌, ◌%◌, ◌^◌, ◌==◌, nat_lt, List, [], ◌∷◌, ◌++◌}
use Rattle.std.specs.Prelude.{if◌then◌else◌}
use Rattle.std.specs.Int.{w16, w32, to_be_bytes}
use Rattle.sha2.specs.Sha256.{sha256}
use Rattle.mb_model.specs.declared.key.KeySeed.{KeySeed}
use Rattle.mb_model.specs.declared.key.PublicKey.{PublicKey}
use Rattle.mb_model.specs.declared.key.Tree.TheVariants.{H5}
use Rattle.mb_model.specs.declared.key.Chains.TheVariants.{W4}
use Rattle.mb_model.specs.signatures.Key.{tree_type, chains_type, height, chain_count, digit_bits}
use Rattle.mb_model.specs.signatures.Winternitz.{coef, digits_of, message_hash, value_after_steps, one_time_key_mark}
use Rattle.mb_model.specs.signatures.Merkle.{leaf_node, inner_node}

-- x_q[i]: the private value of the leaf q for the chain i, 0 to 66, derived from the seed (appendix A)
unfoldable pub private_value : KeySeed → ℕ → ℕ → List ℕ
private_value key leaf chain =
    sha256 (key.identifier ++ to_be_bytes w32 leaf ++ to_be_bytes w16 chain ++ 0xff ∷ key.seed)

-- C: the randomizer of a leaf, derived as a private value is, with a number that no chain has
unfoldable pub randomizer_of : KeySeed → ℕ → List ℕ
randomizer_of key leaf = private_value key leaf 0xfffd

-- the ends of a leaf's first chains, as many as `count` says, each taken through all its 15 steps (4.3)
unfoldable pub public_ends : KeySeed → ℕ → ℕ → List ℕ
public_ends key leaf zero = []
public_ends key leaf (suc count) =
    public_ends key leaf count
    ++ value_after_steps key.identifier leaf count 0 15 (private_value key leaf count)

-- K of a leaf: its one-time public key (4.3)
unfoldable pub one_time_public : KeySeed → ℕ → List ℕ
one_time_public key leaf =
    sha256 (key.identifier ++ to_be_bytes w32 leaf ++ one_time_key_mark ++ public_ends key leaf (chain_count W4))

-- a node on this level above the leaves: the leaf of its one-time key, or the hash of the two nodes under it (5.3)
unfoldable pub node_above : KeySeed → ℕ → ℕ → List ℕ
node_above key zero node = leaf_node key.identifier node (one_time_public key (node - 32))
node_above key (suc level) node =
    inner_node key.identifier node (node_above key level (2 * node)) (node_above key level (2 * node + 1))

-- how many levels a node stands above the leaves, whose numbers are 32 to 63
abbrev pub levels_above : ℕ → ℕ
levels_above node =
    if nat_lt node 2 then 5
    else if nat_lt node 4 then 4
    else if nat_lt node 8 then 3
    else if nat_lt node 16 then 2
    else if nat_lt node 32 then 1
    else 0

-- T[r]: the node r of the tree, from the top node 1 to the last leaf 63 (5.3)
unfoldable pub node_of : KeySeed → ℕ → List ℕ
node_of key node = node_above key (levels_above node) node

-- the public key (5.3)
unfoldable pub public_of : KeySeed → PublicKey
public_of key = record { tree = H5; chains = W4; identifier = key.identifier; root = node_of key 1 }

-- y[0] to y[count - 1]: the values of a leaf's first chains, each taken through as many steps as its digit says (4.5)
unfoldable pub signed_values : KeySeed → ℕ → List ℕ → ℕ → List ℕ
signed_values key leaf digits zero = []
signed_values key leaf digits (suc count) =
    signed_values key leaf digits count
    ++ value_after_steps key.identifier leaf count 0 (coef digits count (digit_bits W4))
    (private_value key leaf count)

-- the digits that the signature of a text at an index signs (4.5)
unfoldable pub signed_digits : KeySeed → ℕ → List ℕ → List ℕ
signed_digits key leaf text = digits_of W4 (message_hash key.identifier leaf (randomizer_of key leaf) text)

-- the other node under the same parent: the right one beside an even number, the left one beside an odd one
abbrev pub sibling : ℕ → ℕ
sibling node = if node % 2 == 0 then node + 1 else node - 1

-- path[0] to path[count - 1]: the siblings of the first nodes on the way up from a node (5.4.1)
unfoldable pub path_from : KeySeed → ℕ → ℕ → List ℕ
path_from key node zero = []
path_from key node (suc count) = path_from key node count ++ node_of key (sibling (node / 2 ^ count))

-- the signature of a text at an index: the index, the LM-OTS type, C, the chain values, the LMS type and the path
-- (5.4.1)
unfoldable pub signature_of : KeySeed → ℕ → List ℕ → List ℕ
signature_of key index text =
    to_be_bytes w32 index ++ to_be_bytes w32 (chains_type W4) ++ randomizer_of key index
    ++ signed_values key index (signed_digits key index text) (chain_count W4)
    ++ to_be_bytes w32 (tree_type H5) ++ path_from key (32 + index) (height H5)
