-- The parameters of an LMS key, and a public key as bytes (RFC 8554, sections 4.1, 5.1 and 5.3).
use Rattle.std.specs.Prelude.{◌≡◌, ℕ, List, ◌++◌, length}
use Rattle.std.specs.Int.{w32, to_be_bytes}
use Rattle.mb_model.specs.declared.key.Tree.{Tree}
use Rattle.mb_model.specs.declared.key.Tree.TheVariants.{H5, H10, H15, H20, H25}
use Rattle.mb_model.specs.declared.key.Chains.{Chains}
use Rattle.mb_model.specs.declared.key.Chains.TheVariants.{W1, W2, W4, W8}
use Rattle.mb_model.specs.declared.key.PublicKey.{PublicKey}

-- the LMS type number (5.1)
abbrev pub tree_type : Tree → ℕ
tree_type H5 = 5
tree_type H10 = 6
tree_type H15 = 7
tree_type H20 = 8
tree_type H25 = 9

-- h, the height of the tree (5.1)
abbrev pub height : Tree → ℕ
height H5 = 5
height H10 = 10
height H15 = 15
height H20 = 20
height H25 = 25

-- the LM-OTS type number (4.1)
abbrev pub chains_type : Chains → ℕ
chains_type W1 = 1
chains_type W2 = 2
chains_type W4 = 3
chains_type W8 = 4

-- w, the bits of one digit (4.1)
abbrev pub digit_bits : Chains → ℕ
digit_bits W1 = 1
digit_bits W2 = 2
digit_bits W4 = 4
digit_bits W8 = 8

-- p, the number of digits, and so of chains (4.1)
abbrev pub chain_count : Chains → ℕ
chain_count W1 = 265
chain_count W2 = 133
chain_count W4 = 67
chain_count W8 = 34

-- ls, by how many bits the checksum is shifted left (4.1)
abbrev pub checksum_shift : Chains → ℕ
checksum_shift W1 = 7
checksum_shift W2 = 6
checksum_shift W4 = 4
checksum_shift W8 = 0

-- the identifier has 16 bytes and the root 32
pub record IsSized (key : PublicKey) : Type 0 where
  pub identifier : length key.identifier ≡ 16
  pub root : length key.root ≡ 32

-- a public key as 56 bytes (5.3)
unfoldable pub key_bytes : PublicKey → List ℕ
key_bytes key =
    to_be_bytes w32 (tree_type key.tree) ++ to_be_bytes w32 (chains_type key.chains) ++ key.identifier ++ key.root
