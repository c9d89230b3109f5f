-- What the bytes of a key give.
use Rattle.std.proofs.Common.{◌≡◌, ℕ, List, [], ◌++◌, length, sym, ap, subst, ◌∙◌, append-nil}
use Rattle.mb_format.specs.Format.{IsBytes, Spells, FailsWhole}
use Rattle.mb_format.proofs.Whole.{IsClearWhole-from_exact}
use Rattle.mb_model.specs.declared.key.PublicKey.{PublicKey}
use Rattle.mb_model.specs.signatures.Merkle.{Verifies}
use Rattle.mb_model.proofs.KeyLemmas.{length-key_bytes, key_bytes-same}
use Rattle.mb_hss.specs.declared.key.HssKey.{HssKey}
use Rattle.mb_hss.specs.HssKeyFormat.{hss_key_format}
use Rattle.mb_hss.specs.HssVerification.{HssVerifies}
use Rattle.mb_hss.specs.ExactFormats.{hss_key_exact}
use Rattle.mb_library.specs.Signatures.{SpellsKey, SpellsNoKey, IsLmsSigned, IsNotLmsSigned, IsHssSigned}

-- ---- LMS

-- bytes spell one key
pub one_key : (bytes : List ℕ) (a b : PublicKey) → SpellsKey bytes a → SpellsKey bytes b → a ≡ b
one_key bytes a b one other = key_bytes-same a b one.sized other.sized (one.spelled ∙ sym other.spelled)

-- a signature that is one by the bytes verifies under the key that they spell
pub under_key : (bytes text sig : List ℕ) (key : PublicKey) → SpellsKey bytes key → IsLmsSigned bytes text sig
    → Verifies key (text ++ []) sig
under_key bytes text sig key spells signed =
    let same = one_key bytes signed.key key signed.spelled spells in
    subst (λ (t : List ℕ). Verifies key t sig) (sym (append-nil text))
    (subst (λ (k : PublicKey). Verifies k text sig) same signed.verifies)

-- a signature that verifies under the key that bytes spell is one by the bytes
pub by_bytes : (bytes text sig : List ℕ) (key : PublicKey) → SpellsKey bytes key → Verifies key (text ++ []) sig
    → IsLmsSigned bytes text sig
by_bytes bytes text sig key spells verifies = record {
  key = key;
  spelled = spells;
  verifies = subst (λ (t : List ℕ). Verifies key t sig) (append-nil text) verifies;
}

-- a signature that does not verify under the key that bytes spell is none by the bytes
pub not_by_bytes : (bytes text sig : List ℕ) (key : PublicKey) → SpellsKey bytes key
    → (Verifies key (text ++ []) sig → ⊥) → IsNotLmsSigned bytes text sig
not_by_bytes bytes text sig key spells not = record {
  key = key;
  spelled = spells;
  differs = λ verifies. not (subst (λ (t : List ℕ). Verifies key t sig) (sym (append-nil text)) verifies);
}

-- bytes of another length spell no key
pub none_of_length : (bytes : List ℕ) → (length bytes ≡ 56 → ⊥) → SpellsNoKey bytes
none_of_length bytes other key spells = other (ap length (sym spells.spelled) ∙ length-key_bytes key spells.sized)

-- ---- HSS

pub under_hss_key : (bytes text sig : List ℕ) (key : HssKey) → IsBytes bytes → Spells hss_key_format bytes key
    → IsHssSigned bytes text sig → HssVerifies key (text ++ []) sig
under_hss_key bytes text sig key are spells signed =
    let same = (IsClearWhole-from_exact hss_key_exact).one_value bytes signed.key key are signed.spelled spells in
    subst (λ (t : List ℕ). HssVerifies key t sig) (sym (append-nil text))
    (subst (λ (k : HssKey). HssVerifies k text sig) same signed.verifies)

pub by_hss_bytes : (bytes text sig : List ℕ) (key : HssKey) → Spells hss_key_format bytes key
    → HssVerifies key (text ++ []) sig → IsHssSigned bytes text sig
by_hss_bytes bytes text sig key spells verifies = record {
  key = key;
  spelled = spells;
  verifies = subst (λ (t : List ℕ). HssVerifies key t sig) (append-nil text) verifies;
}

-- bytes that fail spell no key
pub no_hss_signed : (bytes text sig : List ℕ) (at : ℕ) → IsBytes bytes → FailsWhole hss_key_format bytes at
    → IsHssSigned bytes text sig → ⊥
no_hss_signed bytes text sig at are fails signed =
    (IsClearWhole-from_exact hss_key_exact).never_both bytes signed.key at are signed.spelled fails
