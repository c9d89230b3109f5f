-- When a signature verifies under an HSS key (RFC 8554, sections 6.2 and 6.3). Does each level sign the key of the
-- next, and the last one the text?
use Rattle.std.specs.Prelude.{◌≡◌, ℕ, zero, suc, ◌-◌, List, ◌++◌}
use Rattle.std.specs.Int.{w32, to_be_bytes}
use Rattle.mb_model.specs.declared.key.PublicKey.{PublicKey}
use Rattle.mb_model.specs.signatures.Key.{IsSized, key_bytes}
use Rattle.mb_model.specs.signatures.Merkle.{Verifies}
use Rattle.mb_hss.specs.declared.key.HssKey.{HssKey}

-- these bytes are a key's own signature of the key of the next level, that key, and the rest, in a row (6.2)
pub record SignsNext (key : PublicKey) (sig own : List ℕ) (next : PublicKey) (rest : List ℕ) : Type 0 where
  pub parts : sig ≡ own ++ key_bytes next ++ rest
  pub sized : IsSized next
  pub signed : Verifies key (key_bytes next) own

-- the signature of a text under a key that has n levels below its own: the key of the last level signs the text, and
-- each key above it the key of the next level (6.3)
unfoldable pub VerifiesUnder : PublicKey → ℕ → List ℕ → List ℕ → Type 0
VerifiesUnder key zero text sig = Verifies key text sig
VerifiesUnder key (suc n) text sig =
    (own rest : List ℕ) × (next : PublicKey) × SignsNext key sig own next rest × VerifiesUnder next n text rest

-- the signature is one of the text under the key: it begins with the number of the levels below the first (6.3)
pub record HssVerifies (key : HssKey) (text sig : List ℕ) : Type 0 where
  pub rest : List ℕ
  pub counted : sig ≡ to_be_bytes w32 (key.levels - 1) ++ rest
  pub under : VerifiesUnder key.top (key.levels - 1) text rest
