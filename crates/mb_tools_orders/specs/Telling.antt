-- What naming some of an order's signatures appends to a text.
use Rattle.std.specs.Prelude.{◌≡◌, ◌⊎◌, ℕ, List, ◌++◌}
use Rattle.mb_model.specs.declared.key.PublicKey.{PublicKey}
use Rattle.mb_model.specs.signatures.Merkle.{Verifies}
use Rattle.mb_model.specs.chains.Lines.{text_of}
use Rattle.mb_tools_orders.specs.Ordered.{OrderSignature, AreVerified}

-- the line was appended if the signature verifies, else nothing was
abbrev pub AppendsIfVerified : PublicKey → List ℕ → List ℕ → List ℕ → List ℕ → List ℕ → Type 0
AppendsIfVerified key text signature line old new =
    (Verifies key text signature × (new ≡ old ++ line)) ⊎ ((Verifies key text signature → ⊥) × (new ≡ old))

-- the lines of those signatures that verify were appended
abbrev pub AppendsNames : PublicKey → List OrderSignature → List ℕ → List ℕ → Type 0
AppendsNames key signatures old new =
    (lines : List (List ℕ)) × AreVerified key signatures lines × (new ≡ old ++ text_of lines)
