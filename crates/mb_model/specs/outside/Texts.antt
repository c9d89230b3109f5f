-- What texts are made of: lines and hexadecimal words.
use Rattle.std.specs.Prelude.{◌≡◌, ◌≢◌, ℕ, ◌⊎◌, List, [], ◌∷◌, ◌++◌, codes, Ok}
use Rattle.hex.specs.Hex.{decode_of}

-- a line with the LF that ends it
abbrev pub line_with_lf : List ℕ → List ℕ
line_with_lf line = line ++ 10 ∷ []

-- a word is these bytes in hexadecimal digits of either case, or a dash for none
abbrev pub IsHex : List ℕ → List ℕ → Type 0
IsHex word bytes = ((word ≡ codes "-") × (bytes ≡ [])) ⊎ ((word ≢ []) × (decode_of word ≡ Ok bytes))
