-- A signature above the last level, taken apart (RFC 8554, section 6.2). Into which parts can it be split?
use Rattle.std.specs.Prelude.{◌≡◌, ℕ, ◌+◌, ◌*◌, List, ◌++◌, length}
use Rattle.mb_model.specs.declared.key.PublicKey.{PublicKey}
use Rattle.mb_model.specs.signatures.Key.{IsSized, key_bytes, chain_count, height}

-- how many bytes a signature under a key of LMS has (5.4)
abbrev pub signature_length : PublicKey → ℕ
signature_length key = 44 + 32 * chain_count key.chains + 32 * height key.tree

-- as many bytes as the key's own signature has, the key of the next level, and the rest
pub record ArePartsOf (key : PublicKey) (sig own : List ℕ) (next : PublicKey) (rest : List ℕ) : Type 0 where
  pub long : length own ≡ signature_length key
  pub sized : IsSized next
  pub parts : sig ≡ own ++ key_bytes next ++ rest

-- there are no such parts
abbrev pub HasNoParts : PublicKey → List ℕ → Type 0
HasNoParts key sig = (own rest : List ℕ) (next : PublicKey) → ArePartsOf key sig own next rest → ⊥
