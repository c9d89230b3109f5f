-- Keys and layers are read exactly.
use Rattle.std.proofs.Common.{◌≡◌, ℕ, ◌==◌, [], ◌∷◌, refl, ap, arith, rules}
use Rattle.std.specs.Int.{w8, w32}
use Rattle.mb_format.specs.Format.{Format}
use Rattle.mb_format.specs.Reading.{IsExact}
use Rattle.mb_format.specs.Combinators.{number_bytes}
use Rattle.mb_format.proofs.Rules.{exactly}
use Rattle.mb_format.proofs.Fields.{IsTable, IsList, wide8, listed_exact, nothing_exact}
use Rattle.mb_format.proofs.Compositions.{present_exact, either_exact, pair_exact, as_record_exact, led_exact}
use Rattle.mb_model.specs.declared.key.PublicKey.{PublicKey}
use Rattle.mb_model.specs.declared.key.Tree.TheVariants.{H5, H10, H15, H20, H25}
use Rattle.mb_model.specs.declared.key.Chains.TheVariants.{W1, W2, W4, W8}
use Rattle.mb_model.specs.declared.key.Trust.{Trust}
use Rattle.mb_model.specs.declared.key.Trust.TheVariants.{Always, Never, Countersigned}
use Rattle.mb_model.specs.declared.layer.Layer.{Layer}
use Rattle.mb_model.specs.declared.layer.Trusts.{Trusts}
use Rattle.mb_model.specs.signatures.Key.{tree_type, chains_type, key_bytes}
use Rattle.mb_model.specs.records.KeyFormat.{tree_rows, chains_rows, public_key_format, key_seed_format, keyfile_format}
use Rattle.mb_model.specs.records.LayerFormat.{trust_byte, trust_rows, trust_format, one_trust, two_trusts, trusts_of, code_name_format, Has, has_nothing, has_owner, has_code, has_reliable_code, has_byte, has_rows, has_of, trust_by, owner_by, code_by, reliable_by, layer_by, layer_format, layers_format}

-- ---- keys

pub tree_table : IsTable w32 tree_rows tree_type
tree_table = record { rows_are = search rules; back = elim [ H5 ↦ refl | H10 ↦ refl | H15 ↦ refl | H20 ↦ refl | H25 ↦ refl ] }

pub chains_table : IsTable w32 chains_rows chains_type
chains_table = record { rows_are = search rules; back = elim [ W1 ↦ refl | W2 ↦ refl | W4 ↦ refl | W8 ↦ refl ] }

pub public_key_exact : IsExact public_key_format
unfolding public_key_format
public_key_exact = search (exactly, tree_table, chains_table) depth 20

pub key_seed_exact : IsExact key_seed_format
unfolding key_seed_format
key_seed_exact = search exactly depth 20

pub keyfile_exact : IsExact keyfile_format
unfolding keyfile_format
keyfile_exact = search (exactly, key_seed_exact) depth 20

-- a public key is spelled in the bytes that are hashed and signed
pub public_key_spelling : (key : PublicKey) → public_key_format.spelling key ≡ key_bytes key
unfolding public_key_format number_bytes key_bytes
public_key_spelling key = refl

-- ---- layers

pub trust_table : IsTable w8 trust_rows trust_byte
trust_table = record { rows_are = search rules; back = elim [ Always ↦ refl | Never ↦ refl | Countersigned ↦ refl ] }

pub trust_exact : IsExact trust_format
unfolding trust_format
trust_exact = search (exactly, trust_table) depth 20

-- ---- two trusts

pub one_trust_exact : {f : Format Trust} → IsExact f → IsExact (one_trust f)
one_trust_exact exact = led_exact exact (λ trust h. nothing_exact) (λ trust trusts h g. ap (λ (t : Trusts). t.one) g)

pub two_trusts_exact : {f : Format Trust} → IsExact f → IsExact (two_trusts f)
two_trusts_exact exact = as_record_exact _ _ (pair_exact exact exact) (λ a h. refl) (λ b. refl)

pub trusts_of-exact : (version : ℕ) {f : Format Trust} → IsExact f → IsExact (trusts_of version f)
trusts_of-exact version exact = either_exact (version == 1) (one_trust_exact exact) (two_trusts_exact exact)

pub code_name_exact : IsExact code_name_format
unfolding code_name_format
code_name_exact = search exactly depth 20

pub has_table : IsTable w8 has_rows has_byte
has_table = record { rows_are = search rules; back = elim [ has_nothing ↦ refl | has_owner ↦ refl | has_code ↦ refl | has_reliable_code ↦ refl ] }

never_list : IsList w8 ((1, Never) ∷ []) trust_byte
never_list = record { rows_are = search rules }

pub trust_by-exact : (has : Has) → IsExact (trust_by has)
trust_by-exact has_nothing = listed_exact wide8 never_list
trust_by-exact has_owner = trust_exact
trust_by-exact has_code = trust_exact
trust_by-exact has_reliable_code = trust_exact

pub owner_by-exact : (has : Has) → IsExact (owner_by has)
owner_by-exact has_nothing = nothing_exact
owner_by-exact has_owner = present_exact public_key_exact
owner_by-exact has_code = present_exact public_key_exact
owner_by-exact has_reliable_code = present_exact public_key_exact

pub code_by-exact : (has : Has) → IsExact (code_by has)
code_by-exact has_nothing = nothing_exact
code_by-exact has_owner = nothing_exact
code_by-exact has_code = present_exact code_name_exact
code_by-exact has_reliable_code = present_exact code_name_exact

pub reliable_by-exact : (has : Has) → IsExact (reliable_by has)
reliable_by-exact has_nothing = nothing_exact
reliable_by-exact has_owner = nothing_exact
reliable_by-exact has_code = nothing_exact
reliable_by-exact has_reliable_code = nothing_exact

layer_trusts : (version : ℕ) (has : Has) → IsExact (trusts_of version (trust_by has))
layer_trusts version has = trusts_of-exact version (trust_by-exact has)

pub layer_by-exact : (version : ℕ) (has : Has) → IsExact (layer_by version has)
layer_by-exact version has = search (exactly, layer_trusts, owner_by-exact, code_by-exact, reliable_by-exact) depth 20

-- what a layer has is what the byte said
pub has_keyed : (version : ℕ) (has : Has) (layer : Layer) → (layer_by version has).Allowed layer → has_of layer ≡ has
has_keyed version has_nothing layer h = grind arith
has_keyed version has_owner layer h = grind arith
has_keyed version has_code layer h = grind arith
has_keyed version has_reliable_code layer h = grind arith

pub layer_exact : (version : ℕ) → IsExact (layer_format version)
unfolding layer_format
layer_exact version = search (exactly, has_table, layer_by-exact, has_keyed) depth 20

pub layers_exact : (version : ℕ) → IsExact (layers_format version)
unfolding layers_format
layers_exact version = search (exactly, layer_exact) depth 20
