-- How keys are spelled: a public key (RFC 8554, section 5.3), a key's seed, and the file of an officer's key. Which key
-- do these bytes hold?
use Rattle.std.specs.Prelude.{ℕ, List, [], ◌∷◌}
use Rattle.std.specs.Int.{w32}
use Rattle.mb_format.specs.Format.{Format}
use Rattle.mb_format.specs.Combinators.{raw, between, table, mark, pair, as_record, then_value}
use Rattle.mb_model.specs.declared.limits.TheConstants.{KEY_USES}
use Rattle.mb_model.specs.declared.key.Tree.{Tree}
use Rattle.mb_model.specs.declared.key.Tree.TheVariants.{H5, H10, H15, H20, H25}
use Rattle.mb_model.specs.declared.key.Chains.{Chains}
use Rattle.mb_model.specs.declared.key.Chains.TheVariants.{W1, W2, W4, W8}
use Rattle.mb_model.specs.declared.key.PublicKey.{PublicKey}
use Rattle.mb_model.specs.declared.key.KeySeed.{KeySeed}
use Rattle.mb_model.specs.declared.tools.Keyfile.{Keyfile}
use Rattle.mb_model.specs.signatures.Key.{tree_type, chains_type}

-- the LMS type numbers (5.1)
abbrev pub tree_rows : List (ℕ × Tree)
tree_rows = (5, H5) ∷ (6, H10) ∷ (7, H15) ∷ (8, H20) ∷ (9, H25) ∷ []

-- the LM-OTS type numbers (4.1)
abbrev pub chains_rows : List (ℕ × Chains)
chains_rows = (1, W1) ∷ (2, W2) ∷ (3, W4) ∷ (4, W8) ∷ []

-- a public key: its LMS type, its LM-OTS type, its identifier, and the top node of its tree
unfoldable pub public_key_format : Format PublicKey
public_key_format = as_record
    (pair (table w32 tree_rows tree_type) (pair (table w32 chains_rows chains_type) (pair (raw 16) (raw 32))))
    (λ (tree, (chains, (identifier, root))). record {
      tree = tree;
      chains = chains;
      identifier = identifier;
      root = root;
    })
    (λ key. (key.tree, (key.chains, (key.identifier, key.root))))

-- the seed of a key: its identifier and its secret
unfoldable pub key_seed_format : Format KeySeed
key_seed_format = as_record (pair (raw 16) (raw 32))
    (λ (identifier, seed). record { identifier = identifier; seed = seed })
    (λ key. (key.identifier, key.seed))

-- the word that a key file begins with: MBK1
abbrev pub keyfile_word : List ℕ
keyfile_word = 0x4D ∷ 0x42 ∷ 0x4B ∷ 0x31 ∷ []

-- a key file: its word, the key's seed, and the next index, which is 32 if all are used
unfoldable pub keyfile_format : Format Keyfile
keyfile_format = then_value (mark keyfile_word) (as_record (pair key_seed_format (between w32 0 KEY_USES))
    (λ (seed, next). record { seed = seed; next = next })
    (λ file. (file.seed, file.next)))
