-- What the definitions of the answers give. Do the bytes that a call is given leave it a choice?
use Rattle.std.specs.Prelude.{◌≡◌, ◌≢◌, ℕ, List}
use Rattle.mb_format.specs.Format.{IsBytes}
use Rattle.mb_library.specs.declared.details.Details.{Details}
use Rattle.mb_library.specs.declared.stated.Stated.{Stated}
use Rattle.mb_library.specs.Signatures.{LmsAnswer}
use Rattle.mb_library.specs.Chains.{ChainAnswer}
use Rattle.mb_library.specs.Judging.{TrustAnswer}
use Rattle.mb_library.specs.Stated.{SaidAnswer}

-- a key, a text and a signature have one code
abbrev pub LmsAnswersAreDetermined : Type 0
LmsAnswersAreDetermined =
    (key text sig : List ℕ) (a b : ℕ) → LmsAnswer key text sig a → LmsAnswer key text sig b → a ≡ b

-- a maker's key and a chain have one code, one listing and the same details, unless an allocation fails
abbrev pub ChainAnswersAreDetermined : Type 0
ChainAnswersAreDetermined =
    (maker chain : List ℕ) (key_number : ℕ) (old one other : List ℕ) (told said : Details) (a b : ℕ) → IsBytes chain
    → ChainAnswer maker chain key_number old one told a → ChainAnswer maker chain key_number old other said b
    → a ≢ 4 → b ≢ 4 → (a ≡ b) × (one ≡ other) × (told ≡ said)

-- a maker's key and a chain have one code, what is told of the statement and the same details, unless an allocation
-- fails
abbrev pub SaidAnswersAreDetermined : Type 0
SaidAnswersAreDetermined =
    (maker chain : List ℕ) (key_number : ℕ) (one other : Stated) (told said : Details) (a b : ℕ) → IsBytes chain
    → SaidAnswer maker chain key_number one told a → SaidAnswer maker chain key_number other said b
    → a ≢ 4 → b ≢ 4 → (a ≡ b) × (one ≡ other) × (told ≡ said)

-- a maker's key, a chain and a policy have one code and the same details, unless an allocation fails
abbrev pub TrustAnswersAreDetermined : Type 0
TrustAnswersAreDetermined =
    (maker chain : List ℕ) (key_number : ℕ) (policy : List ℕ) (told said : Details) (a b : ℕ) → IsBytes chain
    → TrustAnswer maker chain key_number policy told a → TrustAnswer maker chain key_number policy said b
    → a ≢ 4 → b ≢ 4 → (a ≡ b) × (told ≡ said)
