-- What every header with a spelling keeps. Do its numbers and its entries fit into their fields?
use Rattle.std.specs.Prelude.{◌≡◌, ◌<◌, ◌≤◌, ℕ, List, length, Option, Some, None}
use Rattle.mb_model.specs.declared.stored.Header.{Header}
use Rattle.mb_model.specs.declared.limits.TheConstants.{ENTRY_TEXT_LIMIT}

-- an entry is not too long
abbrev pub TextFits : Option (List ℕ) → Type 0
TextFits None = Unit {0}
TextFits (Some text) = length text ≤ ENTRY_TEXT_LIMIT

-- both unsigned entries fit, and there is no second one without a first
pub record TextsFit (first second : Option (List ℕ)) : Type 0 where
  pub first_fits : TextFits first
  pub second_fits : TextFits second
  pub in_order : first ≡ None → second ≡ None

pub record HeaderFits (header : Header) : Type 0 where
  pub signed : header.signed < 65536
  pub texts : TextsFit header.first header.second
