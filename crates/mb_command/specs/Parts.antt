-- The parts of an order as the code has them, and the bytes of some. Which part of an order does a value mean?
use Rattle.std.specs.Prelude.{ℕ, ◌≤◌, List, ◌++◌}
use Rattle.std.specs.Int.{w8}
use Rattle.mb_format.specs.Combinators.{number}
use Rattle.mb_model.specs.declared.order.Countersignature.{Countersignature}
use Rattle.mb_model.specs.records.OrderFormat.{Body, Climb, countersignature_format}
use Rattle.mb_command.specs.declared.body.SignedPart.{SignedPart}

-- the part of an order that is signed
abbrev pub body_in : SignedPart → Body
body_in part = record { layer = part.layer; targets = part.targets; act = part.act }

-- the layer of a signed part is one of the three
pub record HasLayer (part : SignedPart) : Type 0 where
  pub least : 1 ≤ part.layer
  pub most : part.layer ≤ 3

-- ---- bytes

-- the bytes of a target that names a layer and a hash
abbrev pub named_bytes : ℕ → ℕ → List ℕ → List ℕ
named_bytes tag layer hash = (number w8).spelling tag ++ ((number w8).spelling layer ++ hash)

-- the bytes of a countersignature are the same wherever it stands
abbrev pub any_climb : Climb
any_climb = record { below = 0; left = 0 }

abbrev pub countersignature_bytes : Countersignature → List ℕ
countersignature_bytes = (countersignature_format any_climb).spelling
