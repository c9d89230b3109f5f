-- How an example is spelled: a number, four bytes, and a counted list of numbers.
use Rattle.std.specs.Prelude.{ℕ, List}
use Rattle.std.specs.Int.{w8, w16, w32}
use Rattle.mb_format.specs.Format.{Format}
use Rattle.mb_format.specs.Combinators.{number, raw, pair, as_record, counted}
use Rattle.mb_bytes.specs.declared.example.Example.{Example}

unfoldable pub values : Format (List ℕ)
values = counted (number w8) (number w16)

unfoldable pub example : Format Example
example = as_record (pair (number w32) (pair (raw 4) values))
    (λ p. record { number = p.0; name = p.1.0; values = p.1.1 })
    (λ e. (e.number, (e.name, e.values)))
