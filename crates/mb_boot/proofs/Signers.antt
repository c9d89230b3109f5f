-- Whose tree is on the bench when unsigned entries are signed.
use Rattle.std.proofs.Common.{◌≡◌, ◌⊎◌, inr, ℕ, true, false, Option, None, Some, refl, sym, ap, subst, ◌∙◌}
use Rattle.std.specs.Prelude.{IsSome}
use Rattle.mb_model.specs.declared.stored.Header.{Header}
use Rattle.mb_model.specs.declared.stored.Outgoing.{Outgoing}
use Rattle.mb_model.specs.declared.stored.Root.{Root}
use Rattle.mb_model.specs.memories.StoredLog.{outgoing_of, signer_by, signer_of}
use Rattle.mb_signer.specs.declared.bench.Bench.{Bench}
use Rattle.mb_signer.specs.Benches.{HasTree, HasRoom, KeepsTrees}
use Rattle.mb_boot.specs.Completions.{text_at_place}
use Rattle.mb_boot.specs.Signers.{HasSigner, HoldsDeviceTree}

-- if no key gives way, the device key signs at both places
pub device_signs : (root : Root) (place : ℕ) → outgoing_of root.pending ≡ None → (signer_of root place).key ≡ root.device
device_signs root place stays = ap (λ (outgoing : Option Outgoing). (signer_by root.device root.uses outgoing place).key) stays

-- there is no text at the place
pub no_text_there : (header : Header) (place : ℕ) (own : Header) → header ≡ own → text_at_place own place ≡ None → IsSome (text_at_place header place) → ⊥
no_text_there header place own same none some =
    let gone : false ≡ true = subst IsSome (ap (λ (h : Header). text_at_place h place) same ∙ none) some in
    absurd (cc)

-- a tree that is on the bench after the first signature is there after the second
pub device_kept : (one two : Bench) (root : Root) → outgoing_of root.pending ≡ None → HasSigner one root 0 → (HasRoom one ⊎ HasSigner one root 1 → KeepsTrees one two) → HasTree two root.device
device_kept one two root stays first keeps =
    let there : HasTree one root.device = subst (HasTree one) (device_signs root 0 stays) first in
    keeps (inr (subst (HasTree one) (sym (device_signs root 1 stays)) there)) root.device there

-- the device key signs second
second_by : (root : Root) (outgoing : Option Outgoing) → (signer_by root.device root.uses outgoing 1).key ≡ root.device
second_by root None = refl
second_by root (Some outgoing) = refl

pub second_signs : (root : Root) → (signer_of root 1).key ≡ root.device
second_signs root = second_by root (outgoing_of root.pending)

-- its tree is held on the bench while both sign
pub device_held : (old one two : Bench) (root : Root) → HoldsDeviceTree old root → (HasRoom old ⊎ HasSigner old root 0 → KeepsTrees old one) → (HasRoom one ⊎ HasSigner one root 1 → KeepsTrees one two) → HasTree two root.device
device_held old one two root holds first second =
    let there : HasTree one root.device = first holds.first root.device holds.device in
    second (inr (subst (HasTree one) (sym (second_signs root)) there)) root.device there
