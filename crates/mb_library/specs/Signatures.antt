-- What is answered for a key in bytes, a text and a signature. Do the bytes spell a key, and does the signature verify
-- under it?
use Rattle.std.specs.Prelude.{◌≡◌, ℕ, List}
use Rattle.mb_format.specs.Format.{Spells}
use Rattle.mb_model.specs.declared.key.PublicKey.{PublicKey}
use Rattle.mb_model.specs.signatures.Key.{IsSized, key_bytes}
use Rattle.mb_model.specs.signatures.Merkle.{Verifies}
use Rattle.mb_hss.specs.declared.key.HssKey.{HssKey}
use Rattle.mb_hss.specs.HssKeyFormat.{hss_key_format}
use Rattle.mb_hss.specs.HssVerification.{HssVerifies}

-- the bytes spell this LMS key
pub record SpellsKey (bytes : List ℕ) (key : PublicKey) : Type 0 where
  pub sized : IsSized key
  pub spelled : key_bytes key ≡ bytes

-- the bytes spell no LMS key
abbrev pub SpellsNoKey : List ℕ → Type 0
SpellsNoKey bytes = (key : PublicKey) → SpellsKey bytes key → ⊥

-- the bytes spell an LMS key, and the signature is one of the text under it
pub record IsLmsSigned (bytes text sig : List ℕ) : Type 0 where
  pub key : PublicKey
  pub spelled : SpellsKey bytes key
  pub verifies : Verifies key text sig

-- the bytes spell an LMS key, and the signature is none of the text under it
pub record IsNotLmsSigned (bytes text sig : List ℕ) : Type 0 where
  pub key : PublicKey
  pub spelled : SpellsKey bytes key
  pub differs : Verifies key text sig → ⊥

-- the bytes spell an HSS key, and the signature is one of the text under it
pub record IsHssSigned (bytes text sig : List ℕ) : Type 0 where
  pub key : HssKey
  pub spelled : Spells hss_key_format bytes key
  pub verifies : HssVerifies key text sig

-- the code for the bytes of an LMS key, a text and a signature
pub data LmsAnswer (bytes text sig : List ℕ) (code : ℕ) : Type 0 where
  signature_accepted : code ≡ 0 → IsLmsSigned bytes text sig → LmsAnswer bytes text sig code
  key_not_spelled : code ≡ 1 → SpellsNoKey bytes → LmsAnswer bytes text sig code
  signature_refused : code ≡ 2 → IsNotLmsSigned bytes text sig → LmsAnswer bytes text sig code
