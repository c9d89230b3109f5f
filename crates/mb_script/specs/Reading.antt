-- What the readers of a script give. Is what is read exactly what stands there?
use Rattle.std.specs.Prelude.{◌≡◌, ℕ, ◌+◌, ◌≤◌, false, not, filter, List, ◌∷◌, ◌++◌, length, codes, IsTrue}
use Rattle.std.specs.Prelude.{Option, IfSome}
use Rattle.std.specs.Fmt.{decimal}
use Rattle.mb_model.specs.declared.limits.TheConstants.{FILL_LIMIT, FLASH_LENGTH}
use Rattle.mb_model.specs.owners.Layers.{is_upper}
use Rattle.mb_model.specs.outside.Texts.{IsHex}
use Rattle.mb_model.specs.chains.Lines.{HasLines, number_limit}
use Rattle.mb_model.specs.chains.Script.{IsName, called_word, is_skipped}

-- ---- a script

-- the lines that say events
abbrev pub lines_said : List (List ℕ) → List (List ℕ)
lines_said lines = filter (λ line. not (is_skipped line)) lines

-- This line, from 1, says the event with this index, from 0: that many lines before it are not skipped. Or there are no
-- more events than that, and the line is the one after the last.
pub data IsLineOf (text : List ℕ) (index n : ℕ) : Type 0 where
  says : (before : List (List ℕ)) (line : List ℕ) (later : List (List ℕ)) → HasLines text (before ++ line ∷ later)
      → is_skipped line ≡ false → length (lines_said before) ≡ index → n ≡ length before + 1 → IsLineOf text index n
  past : (lines : List (List ℕ)) → HasLines text lines → length (lines_said lines) ≤ index → n ≡ length lines + 1
      → IsLineOf text index n

-- ---- parts of a line

-- a text is a number, a space, and what stands after that
pub record HasNumberFirst (most : ℕ) (text : List ℕ) (number : ℕ) (rest : List ℕ) : Type 0 where
  pub within : number ≤ most
  pub whole : text ≡ decimal number ++ 32 ∷ rest

-- a text is the number of a region, a space, and what stands after that
pub record HasRegionFirst (text : List ℕ) (region : ℕ) (rest : List ℕ) : Type 0 where
  pub upper : IsTrue (is_upper region)
  pub whole : text ≡ decimal region ++ 32 ∷ rest

-- a text is the key of a call, a space, and what stands after that
pub record HasKeyFirst (text : List ℕ) (key : Option ℕ) (rest : List ℕ) : Type 0 where
  pub within : IfSome key (λ number. number ≤ number_limit)
  pub whole : text ≡ called_word key ++ 32 ∷ rest

-- a text is a name, a space, and what stands after that
pub record HasNameFirst (text name rest : List ℕ) : Type 0 where
  pub named : IsName name
  pub whole : text ≡ name ++ 32 ∷ rest

-- a word spells in hexadecimal the bytes that fill, 1 to 16 of them
pub record IsFill (word fill : List ℕ) : Type 0 where
  pub spelled : IsHex word fill
  pub some : 1 ≤ length fill
  pub most : length fill ≤ FILL_LIMIT

-- a text is the number of a region, a space, and a name
pub record SaysSecret (text : List ℕ) (region : ℕ) (name : List ℕ) : Type 0 where
  pub upper : IsTrue (is_upper region)
  pub named : IsName name
  pub whole : text ≡ decimal region ++ 32 ∷ name

-- What follows the count of a cut: how many bytes are kept, 0 if the text does not say so, and the word of the bytes
-- that fill.
pub data SaysTail (text : List ℕ) (keep : ℕ) (word : List ℕ) : Type 0 where
  kept_some : keep ≤ FLASH_LENGTH → text ≡ codes "keep " ++ decimal keep ++ 32 ∷ (codes "fill " ++ word)
      → SaysTail text keep word
  none : keep ≡ 0 → text ≡ codes "fill " ++ word → SaysTail text keep word
