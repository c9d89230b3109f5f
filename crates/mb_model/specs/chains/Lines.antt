-- How a text is divided into lines and words, and which of its lines is the first wrong one. Is a text read in one way
-- only?
use Rattle.std.specs.Prelude.{◌≡◌, ◌≢◌, ℕ, ◌+◌, ◌≤◌, ◌⊎◌, List, [], ◌∷◌, ◌++◌, length, codes, All, flat_map}
use Rattle.std.specs.List.{join_with_byte}
use Rattle.std.specs.Fmt.{decimal}
use Rattle.hex.specs.Hex.{encode_lower}
use Rattle.mb_model.specs.outside.Texts.{line_with_lf}

-- a line has no LF
abbrev pub IsLine : List ℕ → Type 0
IsLine line = All (λ byte. byte ≢ 10) line

-- the last line, which is not empty, lacks its LF
pub record LacksLastLf (lines : List (List ℕ)) (text : List ℕ) : Type 0 where
  pub before : List (List ℕ)
  pub last : List ℕ
  pub split : lines ≡ before ++ last ∷ []
  pub filled : last ≢ []
  pub whole : text ≡ flat_map line_with_lf before ++ last

-- A text has these lines: each ends with an LF, which the last may lack if it is not empty. The empty text has no line,
-- an LF alone is one empty line, and no line follows an LF at the end of the text.
pub record HasLines (text : List ℕ) (lines : List (List ℕ)) : Type 0 where
  pub plain : All IsLine lines
  pub whole : (text ≡ flat_map line_with_lf lines) ⊎ LacksLastLf lines text

-- the text that is written for these lines: each ends with an LF
abbrev pub text_of : List (List ℕ) → List ℕ
text_of lines = flat_map line_with_lf lines

-- words with one space between each two, and none before or after
abbrev pub spaced_words : List (List ℕ) → List ℕ
spaced_words words = join_with_byte 32 words

-- the word is this number in decimal, without leading zeros, and the number is at most `most`
abbrev pub IsNumber : ℕ → List ℕ → ℕ → Type 0
IsNumber most word number = (word ≡ decimal number) × (number ≤ most)

-- the largest number in a text, unless a lower limit is given
abbrev pub number_limit : ℕ
number_limit = 4294967295

-- the word that is written for bytes: two hexadecimal digits in lower case for each, or a dash for none
abbrev pub hex_word : List ℕ → List ℕ
hex_word [] = codes "-"
hex_word (byte ∷ bytes) = encode_lower (byte ∷ bytes)

-- Some text of the grammar begins with these lines. A grammar says which lines mean which value.
pub record IsBeginning {A : Type 0} (Grammar : List (List ℕ) → A → Type 0) (lines : List (List ℕ)) : Type 0 where
  pub more : List (List ℕ)
  pub value : A
  pub stands : Grammar (lines ++ more) value

-- The line with this number, from 1, is wrong: some text of the grammar begins with the lines before it, and none
-- begins with those and this line.
pub record HasBadLine
    {A : Type 0}
    (Grammar : List (List ℕ) → A → Type 0)
    (lines : List (List ℕ))
    (place : ℕ) : Type 0 where
  pub before : List (List ℕ)
  pub line : List ℕ
  pub later : List (List ℕ)
  pub split : lines ≡ before ++ line ∷ later
  pub good : IsBeginning Grammar before
  pub bad : IsBeginning Grammar (before ++ line ∷ []) → ⊥
  pub number : place ≡ length before + 1

-- The text ends too early, before this line: a longer text of the grammar begins with all its lines, but these alone
-- are no text of the grammar.
pub record EndsEarly
    {A : Type 0}
    (Grammar : List (List ℕ) → A → Type 0)
    (lines : List (List ℕ))
    (line : ℕ) : Type 0 where
  pub good : IsBeginning Grammar lines
  pub unfinished : (value : A) → Grammar lines value → ⊥
  pub number : line ≡ length lines + 1

-- The line with this number, from 1, is the first wrong one of these lines.
pub data FailsAtLine {A : Type 0} (Grammar : List (List ℕ) → A → Type 0)
    (lines : List (List ℕ)) (line : ℕ) : Type 0 where
  bad_line : HasBadLine Grammar lines line → FailsAtLine Grammar lines line
  ends_early : EndsEarly Grammar lines line → FailsAtLine Grammar lines line

-- the lines of a text mean this value
pub record ReadsLines {A : Type 0} (Grammar : List (List ℕ) → A → Type 0) (text : List ℕ) (value : A) : Type 0 where
  pub lines : List (List ℕ)
  pub has : HasLines text lines
  pub stands : Grammar lines value

-- the line with this number is the first wrong line of a text
pub record TextFailsAtLine
    {A : Type 0}
    (Grammar : List (List ℕ) → A → Type 0)
    (text : List ℕ)
    (line : ℕ) : Type 0 where
  pub lines : List (List ℕ)
  pub has : HasLines text lines
  pub fails : FailsAtLine Grammar lines line
