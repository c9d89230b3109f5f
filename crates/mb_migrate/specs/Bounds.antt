-- The bounds that every public record with a spelling keeps. Do its lengths and counts fit into their fields?
use Rattle.std.specs.Prelude.{◌≡◌, ◌<◌, ◌^◌, ℕ, List, length, Some}
use Rattle.mb_model.specs.declared.state.Codes.{Codes}
use Rattle.mb_model.specs.declared.stored.Public.{Public}

-- the length of a code fits into four bytes
abbrev pub CodeFits : List ℕ → Type 0
CodeFits code = length code < 2 ^ 32

pub record CodesFit (codes : Codes) : Type 0 where
  pub one : (code : List ℕ) → codes.one ≡ Some code → CodeFits code
  pub two : (code : List ℕ) → codes.two ≡ Some code → CodeFits code
  pub three : (code : List ℕ) → codes.three ≡ Some code → CodeFits code

-- codes that fit, and at most 65,535 entries
pub record PublicFits (stored : Public) : Type 0 where
  pub codes : CodesFit stored.codes
  pub entries : length stored.entries < 65536
