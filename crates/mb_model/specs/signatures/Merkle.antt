-- Trees of one-time keys, and when a signature verifies (RFC 8554, section 5).
use Rattle.std.specs.Prelude.{◌≡◌, ℕ, zero, suc, ◌+◌, ◌*◌, ◌/◌, ◌%◌, ◌^◌, ◌<◌, ◌==◌, List, [], ◌∷◌, ◌++◌}
use Rattle.std.specs.Prelude.{length, take, drop, if◌then◌else◌}
use Rattle.std.specs.Int.{w32, to_be_bytes, from_be_bytes}
use Rattle.sha2.specs.Sha256.{sha256}
use Rattle.mb_model.specs.declared.key.PublicKey.{PublicKey}
use Rattle.mb_model.specs.outside.Pieces.{part}
use Rattle.mb_model.specs.signatures.Key.{tree_type, chains_type, height, chain_count}
use Rattle.mb_model.specs.signatures.Winternitz.{message_hash, digits_of, one_time_key}

-- D_LEAF and D_INTR, domain separators of the hash (7.1)
abbrev pub leaf_mark : List ℕ
leaf_mark = 0x82 ∷ 0x82 ∷ []

abbrev pub inner_mark : List ℕ
inner_mark = 0x83 ∷ 0x83 ∷ []

-- the node of a tree with this number, if it is a leaf: the hash of its one-time key (5.3)
unfoldable pub leaf_node : List ℕ → ℕ → List ℕ → List ℕ
leaf_node id number key = sha256 (id ++ to_be_bytes w32 number ++ leaf_mark ++ key)

-- the node of a tree with this number, if it is an inner one: the hash of the two nodes under it (5.3)
unfoldable pub inner_node : List ℕ → ℕ → List ℕ → List ℕ → List ℕ
inner_node id number left right = sha256 (id ++ to_be_bytes w32 number ++ inner_mark ++ left ++ right)

-- the node above the one with this number and its sibling; a node with an even number is the left one
unfoldable pub parent_node : List ℕ → ℕ → List ℕ → List ℕ → List ℕ
parent_node id number node sibling =
    if number % 2 == 0 then inner_node id (number / 2) node sibling else inner_node id (number / 2) sibling node

-- the node this many levels above a node, with the nodes of the path as siblings in turn (5.4.2)
unfoldable pub climb : List ℕ → ℕ → List ℕ → List ℕ → ℕ → List ℕ
climb id number node path zero = node
climb id number node path (suc levels) =
    climb id (number / 2) (parent_node id number node (take 32 path)) (drop 32 path) levels

-- The fields of a signature (5.4): the leaf's number q, the LM-OTS type, C, the chain values, the LMS type, the path.
abbrev pub leaf_number : List ℕ → ℕ
leaf_number sig = from_be_bytes w32 (part 0 4 sig)

abbrev pub chains_type_in : List ℕ → ℕ
chains_type_in sig = from_be_bytes w32 (part 4 4 sig)

abbrev pub randomizer : List ℕ → List ℕ
randomizer sig = part 8 32 sig

-- the chain values, one for each of this many chains; the LMS type and the path follow them
abbrev pub chain_values : ℕ → List ℕ → List ℕ
chain_values count sig = part 40 (32 * count) sig

abbrev pub tree_type_in : ℕ → List ℕ → ℕ
tree_type_in count sig = from_be_bytes w32 (part (40 + 32 * count) 4 sig)

abbrev pub path_in : ℕ → List ℕ → List ℕ
path_in count sig = drop (44 + 32 * count) sig

-- a signature has the form of a key's signatures: the length and the type numbers of the key's types, and a leaf that
-- is in the tree (5.4.2)
pub record HasForm (key : PublicKey) (sig : List ℕ) : Type 0 where
  pub sized : length sig ≡ 44 + 32 * chain_count key.chains + 32 * height key.tree
  pub chains : chains_type_in sig ≡ chains_type key.chains
  pub tree : tree_type_in (chain_count key.chains) sig ≡ tree_type key.tree
  pub leaf : leaf_number sig < 2 ^ height key.tree

-- T[1]: the top node that a signature gives for the hash of a text (5.4.2)
unfoldable pub root_from : PublicKey → List ℕ → List ℕ → List ℕ
root_from key hash sig =
    let count = chain_count key.chains in
    let leaf = leaf_number sig in
    let number = 2 ^ height key.tree + leaf in
    let one_time = one_time_key key.chains key.identifier leaf (digits_of key.chains hash) (chain_values count sig) in
    climb key.identifier number (leaf_node key.identifier number one_time) (path_in count sig) (height key.tree)

-- the hash of a text under a signature
unfoldable pub hash_of : PublicKey → List ℕ → List ℕ → List ℕ
hash_of key text sig = message_hash key.identifier (leaf_number sig) (randomizer sig) text

-- the signature is one of the text under the key (5.4.2)
pub record Verifies (key : PublicKey) (text sig : List ℕ) : Type 0 where
  pub form : HasForm key sig
  pub root : root_from key (hash_of key text sig) sig ≡ key.root
