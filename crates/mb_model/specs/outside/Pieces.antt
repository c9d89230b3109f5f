-- Pieces of a list of bytes.
use Rattle.std.specs.Prelude.{ℕ, List, take, drop}

-- `count` of the bytes, from the offset `at` on
abbrev pub part : ℕ → ℕ → List ℕ → List ℕ
part at count bytes = take count (drop at bytes)
