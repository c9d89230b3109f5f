-- How a layer is spelled: what it has, its trusts, its owner and the name of its code. Which layer do these bytes hold?
use Rattle.std.specs.Prelude.{ℕ, ◌==◌, Bool, true, false, List, [], ◌∷◌, Option, Some, None}
use Rattle.std.specs.Int.{w8, w32}
use Rattle.mb_format.specs.Format.{Format}
use Rattle.mb_format.specs.Combinators.{raw, number, table, listed, nothing, present, pair, either, as_record, led}
use Rattle.mb_model.specs.declared.key.PublicKey.{PublicKey}
use Rattle.mb_model.specs.declared.key.Trust.{Trust}
use Rattle.mb_model.specs.declared.key.Trust.TheVariants.{Always, Never, Countersigned}
use Rattle.mb_model.specs.declared.layer.CodeName.{CodeName}
use Rattle.mb_model.specs.declared.layer.Layer.{Layer}
use Rattle.mb_model.specs.declared.layer.Layers.{Layers}
use Rattle.mb_model.specs.declared.layer.Trusts.{Trusts}
use Rattle.mb_model.specs.owners.Layers.{equal_trusts}
use Rattle.mb_model.specs.records.KeyFormat.{public_key_format}

-- a trust as a byte
abbrev pub trust_byte : Trust → ℕ
trust_byte Always = 0
trust_byte Never = 1
trust_byte Countersigned = 2

abbrev pub trust_rows : List (ℕ × Trust)
trust_rows = (0, Always) ∷ (1, Never) ∷ (2, Countersigned) ∷ []

unfoldable pub trust_format : Format Trust
trust_format = table w8 trust_rows trust_byte

-- one trust, which means two equal ones
abbrev pub one_trust : Format Trust → Format Trusts
one_trust format = led format (λ trusts. trusts.one) (λ trust. nothing (equal_trusts trust))

-- two trusts: in changes of layer 1, then in changes of layer 2
abbrev pub two_trusts : Format Trust → Format Trusts
two_trusts format = as_record (pair format format)
    (λ (one, two). record { one = one; two = two })
    (λ trusts. (trusts.one, trusts.two))

-- the trusts of a layer in an entry of this version: version 1 spells one trust, version 2 spells two
abbrev pub trusts_of : ℕ → Format Trust → Format Trusts
trusts_of version format = either (version == 1) (one_trust format) (two_trusts format)

-- the name of code: its hash and its version
unfoldable pub code_name_format : Format CodeName
code_name_format = as_record (pair (raw 32) (number w32))
    (λ (hash, version). record { hash = hash; version = version })
    (λ name. (name.hash, name.version))

-- What a layer has, as a byte: bit 0 for an owner, bit 1 for code, bit 2 for code to be relied on. A bit is set only if
-- those before it are.
pub data Has : Type 0 where
  has_nothing has_owner has_code has_reliable_code : Has

abbrev pub has_byte : Has → ℕ
has_byte has_nothing = 0
has_byte has_owner = 1
has_byte has_code = 3
has_byte has_reliable_code = 7

abbrev pub has_rows : List (ℕ × Has)
has_rows = (0, has_nothing) ∷ (1, has_owner) ∷ (3, has_code) ∷ (7, has_reliable_code) ∷ []

abbrev pub has_with : Option PublicKey → Option CodeName → Bool → Has
has_with None code reliable = has_nothing
has_with (Some owner) None reliable = has_owner
has_with (Some owner) (Some code) false = has_code
has_with (Some owner) (Some code) true = has_reliable_code

abbrev pub has_of : Layer → Has
has_of layer = has_with layer.owner layer.code layer.reliable

-- the trust of a layer without an owner is never
abbrev pub trust_by : Has → Format Trust
trust_by has_nothing = listed w8 ((1, Never) ∷ []) trust_byte
trust_by has_owner = trust_format
trust_by has_code = trust_format
trust_by has_reliable_code = trust_format

abbrev pub owner_by : Has → Format (Option PublicKey)
owner_by has_nothing = nothing None
owner_by has_owner = present public_key_format
owner_by has_code = present public_key_format
owner_by has_reliable_code = present public_key_format

abbrev pub code_by : Has → Format (Option CodeName)
code_by has_nothing = nothing None
code_by has_owner = nothing None
code_by has_code = present code_name_format
code_by has_reliable_code = present code_name_format

abbrev pub reliable_by : Has → Format Bool
reliable_by has_nothing = nothing false
reliable_by has_owner = nothing false
reliable_by has_code = nothing false
reliable_by has_reliable_code = nothing true

-- what follows the byte of what a layer has: its trusts, and its owner and code name if it has them; that code is
-- reliable takes no byte
abbrev pub layer_by : ℕ → Has → Format Layer
layer_by version has = as_record
    (pair (trusts_of version (trust_by has)) (pair (owner_by has) (pair (code_by has) (reliable_by has))))
    (λ (trust, (owner, (code, reliable))). record { owner = owner; code = code; reliable = reliable; trust = trust })
    (λ layer. (layer.trust, (layer.owner, (layer.code, layer.reliable))))

-- a layer, as entries of this version spell it
unfoldable pub layer_format : ℕ → Format Layer
layer_format version = led (table w8 has_rows has_byte) has_of (layer_by version)

-- three layers, from the first on
unfoldable pub layers_format : ℕ → Format Layers
layers_format version = as_record (pair (layer_format version) (pair (layer_format version) (layer_format version)))
    (λ (one, (two, three)). record { one = one; two = two; three = three })
    (λ layers. (layers.one, (layers.two, layers.three)))
