-- From what a checker found to what a signature is.
use Rattle.std.proofs.Common.{◌≡◌, ℕ, List, ◌++◌, ◌↔◌, subst, ◌∙◌, ap, sym}
use Rattle.std.specs.Int.{w32, to_be_bytes}
use Rattle.sha2.specs.Sha256.{sha256}
use Rattle.mb_model.specs.declared.key.PublicKey.{PublicKey}
use Rattle.mb_model.specs.signatures.Winternitz.{message_mark, message_hash}
use Rattle.mb_model.specs.signatures.Merkle.{HasForm, Verifies, root_from, hash_of, leaf_number, randomizer}

verifies_same : (key : PublicKey) (text sig hash : List ℕ) → hash ≡ hash_of key text sig → (B : Type 0) →
    (B ↔ (HasForm key sig × (root_from key hash sig ≡ key.root))) → (B ↔ Verifies key text sig)
verifies_same key text sig hash e B found = (
  λ b. let x = found.0 b in record { form = x.0; root = ap (λ h. root_from key h sig) (sym e) ∙ x.1 },
  λ v. found.1 (v.form, ap (λ h. root_from key h sig) e ∙ v.root),
)

pub verifies_by : (kept key : PublicKey) (text sig hash : List ℕ) → kept ≡ key →
    hash ≡ sha256 (key.identifier ++ to_be_bytes w32 (leaf_number sig) ++ message_mark ++ randomizer sig ++ text) →
    (B : Type 0) → (B ↔ (HasForm kept sig × (root_from kept hash sig ≡ kept.root))) → (B ↔ Verifies key text sig)
unfolding hash_of message_hash
verifies_by kept key text sig hash same hashed B found =
    let P : PublicKey → Type 0 = λ k. B ↔ (HasForm k sig × (root_from k hash sig ≡ k.root)) in
    verifies_same key text sig hash hashed B (subst P same found)
