-- The last line of a summary.
use Rattle.std.specs.Prelude.{ℕ, List, ◌++◌, codes}
use Rattle.hex.specs.Hex.{encode_lower}

abbrev pub hash_line : List ℕ → List ℕ
hash_line hash = codes "image " ++ encode_lower hash
