-- A header that has a spelling keeps the bounds on sizes.
use Rattle.std.proofs.Common.{ℕ, List, Option, Some, None, refl, arith}
use Rattle.mb_format.specs.Combinators.{items}
use Rattle.mb_model.specs.declared.stored.Header.{Header}
use Rattle.mb_model.specs.records.HeaderFormat.{entry_bytes_format, unsigned_format, header_format}
use Rattle.mb_segments.specs.Bounds.{TextsFit, HeaderFits}

texts_fit : (signed : ℕ) (first second : Option (List ℕ)) → (unsigned_format signed).Allowed (first, second) → TextsFit first second
unfolding unsigned_format entry_bytes_format items
texts_fit signed None None h = record { first_fits = tt; second_fits = tt; in_order = λ e. refl }
texts_fit signed None (Some second) h = absurd h
texts_fit signed (Some first) None h = record { first_fits = omega (arith, h.1.0.0.1); second_fits = tt; in_order = λ e. refl }
texts_fit signed (Some first) (Some second) h =
    record { first_fits = omega (arith, h.1.0.0.1); second_fits = omega (arith, h.1.1.0.0.1); in_order = λ e. absurd (grind (arith, e)) }

pub header_fits : (header : Header) → header_format.Allowed header → HeaderFits header
unfolding header_format
header_fits header h = record {
  signed = omega (arith, h.1.1.1.1.0.1);
  texts = texts_fit header.signed header.first header.second h.1.1.1.1.1;
}
