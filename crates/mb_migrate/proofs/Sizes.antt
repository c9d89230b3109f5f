-- A public record that has a spelling keeps the bounds on sizes.
use Rattle.std.proofs.Common.{◌≡◌, ℕ, Option, Some, None, List, arith}
use Rattle.mb_model.specs.declared.state.Codes.{Codes}
use Rattle.mb_model.specs.declared.stored.Public.{Public}
use Rattle.mb_model.specs.memories.PublicRecord.{code_format, codes_format, public_format}
use Rattle.mb_migrate.specs.Bounds.{CodeFits, CodesFit, PublicFits}

code_fits : (o : Option (List ℕ)) → code_format.Allowed o → (code : List ℕ) → o ≡ Some code → CodeFits code
unfolding code_format
code_fits None h code e = absurd cc
code_fits (Some other) h code e =
    let same : other ≡ code = cc in
    rw (← same) (omega (arith, h.1.0.1))

codes_fit : (codes : Codes) → codes_format.Allowed codes → CodesFit codes
unfolding codes_format
codes_fit codes h = record { one = code_fits codes.one h.0; two = code_fits codes.two h.1.0; three = code_fits codes.three h.1.1 }

pub public_fits : (stored : Public) → public_format.Allowed stored → PublicFits stored
unfolding public_format
public_fits stored h = record { codes = codes_fit stored.codes h.1.0; entries = omega (arith, h.1.1.0.1) }
