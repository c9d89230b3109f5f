-- An example of each kind of field, composed into one format.
use Rattle.std.specs.Prelude.{ℕ, List, [], ◌∷◌, Option, Some, None}
use Rattle.std.specs.Int.{w8, w16, w32}
use Rattle.mb_format.specs.Format.{Format}
use Rattle.mb_format.specs.Combinators.{number, between, pair, as_value, as_record, led, table, counted, sized}

-- a choice by a tag
pub data Choice : Type 0 where
  Word : ℕ → Choice
  Text : List ℕ → Choice

pub data Tag : Type 0 where
  word_tag text_tag : Tag

abbrev pub tag_rows : List (ℕ × Tag)
tag_rows = (1, word_tag) ∷ (2, text_tag) ∷ []

abbrev pub tag_byte : Tag → ℕ
tag_byte word_tag = 1
tag_byte text_tag = 2

abbrev pub tag_of : Choice → Tag
tag_of (Word n) = word_tag
tag_of (Text bytes) = text_tag

abbrev pub word_in : Choice → Option ℕ
word_in (Word n) = Some n
word_in (Text bytes) = None

abbrev pub text_in : Choice → Option (List ℕ)
text_in (Word n) = None
text_in (Text bytes) = Some bytes

abbrev pub choice_body : Tag → Format Choice
choice_body word_tag = as_value (number w32) Word word_in
choice_body text_tag = as_value (sized (between w8 0 32)) Text text_in

unfoldable pub choice : Format Choice
choice = led (table w8 tag_rows tag_byte) tag_of choice_body

pub record Sample : Type 0 where
  pub size : ℕ
  pub choice_in : Choice
  pub numbers : List ℕ
  pub bytes : List ℕ

abbrev pub sample_into : ℕ × (Choice × (List ℕ × List ℕ)) → Sample
sample_into p = record { size = p.0; choice_in = p.1.0; numbers = p.1.1.0; bytes = p.1.1.1 }

abbrev pub sample_parts : Sample → ℕ × (Choice × (List ℕ × List ℕ))
sample_parts s = (s.size, (s.choice_in, (s.numbers, s.bytes)))

unfoldable pub sample : Format Sample
sample = as_record
    (pair (number w16) (pair choice (pair (counted (between w8 0 3) (number w16)) (sized (between w16 0 300)))))
    sample_into
    sample_parts

-- a value and its bytes: size 7, a word, two numbers, one byte
abbrev pub short_sample : Sample
short_sample = record { size = 7; choice_in = Word 258; numbers = 1 ∷ 515 ∷ []; bytes = 4 ∷ [] }

abbrev pub short_bytes : List ℕ
short_bytes = 0 ∷ 7 ∷ 1 ∷ 0 ∷ 0 ∷ 1 ∷ 2 ∷ 2 ∷ 0 ∷ 1 ∷ 2 ∷ 3 ∷ 0 ∷ 1 ∷ 4 ∷ []

-- `short_bytes` with a tag that is in no row
abbrev pub mistagged_bytes : List ℕ
mistagged_bytes = 0 ∷ 7 ∷ 3 ∷ 0 ∷ 0 ∷ 1 ∷ 2 ∷ 2 ∷ 0 ∷ 1 ∷ 2 ∷ 3 ∷ 0 ∷ 1 ∷ 4 ∷ []
