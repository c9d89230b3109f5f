-- How a layer is spelled, by what it has.
use Rattle.std.proofs.Common.{◌≡◌, Bool, true, false, Some, None, ◌++◌, List, ℕ, ◌==◌, refl, ap, ◌∙◌, append-nil}
use Rattle.std.specs.Int.{w8}
use Rattle.mb_format.specs.Combinators.{number, number_bytes, either}
use Rattle.mb_model.specs.declared.key.PublicKey.{PublicKey}
use Rattle.mb_model.specs.declared.layer.Trusts.{Trusts}
use Rattle.mb_model.specs.declared.layer.CodeName.{CodeName}
use Rattle.mb_model.specs.declared.layer.Layer.{Layer}
use Rattle.mb_model.specs.records.KeyFormat.{public_key_format}
use Rattle.mb_model.specs.records.LayerFormat.{trust_format, one_trust, two_trusts, trusts_of, trust_by, has_nothing, code_name_format, layer_format}
use Rattle.mb_layout.specs.Parts.{loaded_byte}

-- where a layer has nothing, its trusts are spelled as any others are
never_bytes : (first : Bool) (trusts : Trusts) → (either first (one_trust (trust_by has_nothing)) (two_trusts (trust_by has_nothing))).spelling trusts
    ≡ (either first (one_trust trust_format) (two_trusts trust_format)).spelling trusts
unfolding trust_format
never_bytes true trusts = refl
never_bytes false trusts = refl

pub unowned_bytes : (version : ℕ) (layer : Layer) → layer.owner ≡ None
    → (layer_format version).spelling layer ≡ (number w8).spelling 0 ++ (trusts_of version trust_format).spelling layer.trust
unfolding layer_format
unowned_bytes version layer e =
    rw e (ap (λ (x : List ℕ). number_bytes w8 0 ++ x) (append-nil ((trusts_of version (trust_by has_nothing)).spelling layer.trust) ∙ never_bytes (version == 1) layer.trust))

pub owned_bytes : (version : ℕ) (layer : Layer) (owner : PublicKey) → layer.owner ≡ Some owner → layer.code ≡ None
    → (layer_format version).spelling layer ≡ (number w8).spelling 1 ++ ((trusts_of version trust_format).spelling layer.trust ++ public_key_format.spelling owner)
unfolding layer_format
owned_bytes version layer owner e f = rw (e, f) (ap (λ (x : List ℕ). number_bytes w8 1 ++ ((trusts_of version trust_format).spelling layer.trust ++ x)) (append-nil (public_key_format.spelling owner)))

loaded : (version : ℕ) (owner : PublicKey) (name : CodeName) (trust : Trusts) (reliable : Bool)
    → (layer_format version).spelling (record { owner = Some owner; code = Some name; reliable = reliable; trust = trust })
    ≡ (number w8).spelling (loaded_byte reliable) ++ ((trusts_of version trust_format).spelling trust ++ (public_key_format.spelling owner ++ code_name_format.spelling name))
unfolding layer_format
loaded version owner name trust true = ap (λ (x : List ℕ). number_bytes w8 7 ++ ((trusts_of version trust_format).spelling trust ++ (public_key_format.spelling owner ++ x))) (append-nil (code_name_format.spelling name))
loaded version owner name trust false = ap (λ (x : List ℕ). number_bytes w8 3 ++ ((trusts_of version trust_format).spelling trust ++ (public_key_format.spelling owner ++ x))) (append-nil (code_name_format.spelling name))

pub loaded_bytes : (version : ℕ) (layer : Layer) (owner : PublicKey) (name : CodeName) → layer.owner ≡ Some owner → layer.code ≡ Some name
    → (layer_format version).spelling layer ≡ (number w8).spelling (loaded_byte layer.reliable) ++ ((trusts_of version trust_format).spelling layer.trust ++ (public_key_format.spelling owner ++ code_name_format.spelling name))
loaded_bytes version layer owner name e f =
    let same : layer ≡ (record { owner = Some owner; code = Some name; reliable = layer.reliable; trust = layer.trust }) = rw (← e, ← f) refl in
    ap (layer_format version).spelling same ∙ loaded version owner name layer.trust layer.reliable
