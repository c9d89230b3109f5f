-- What the words of a command line call: a command of a table, with names of files, numbers and bytes after its name.
-- Can words call two commands?
use Rattle.std.specs.Prelude.{◌≡◌, ◌≢◌, ◌≤◌, ◌⊎◌, ℕ, Bool, true, false, List, [], ◌∷◌, ◌++◌, map, slice_get}
use Rattle.std.specs.Prelude.{Option, Some}
use Rattle.std.specs.Fmt.{decimal}
use Rattle.mb_model.specs.chains.Lines.{number_limit}
use Rattle.mb_script.specs.Reading.{IsFill}
use Rattle.mb_console.specs.declared.words.Kind.{Kind}
use Rattle.mb_console.specs.declared.words.Kind.TheVariants as kind
use Rattle.mb_console.specs.declared.words.Argument.{Argument as Given}
use Rattle.mb_console.specs.declared.words.Argument.TheVariants as given

-- ---- the table

-- a command in a table: which one it is, its name, and the kinds of the words after its name
abbrev pub Row : Type 0 → Type 0
Row C = C × List ℕ × List Kind

-- ---- words

-- what a word means: the name of a file, a number, or bytes, which are given by their word in hexadecimal
pub data Argument : Type 0 where
  file : List ℕ → Argument
  numeral : ℕ → Argument
  hexadecimal : List ℕ → Argument

-- the word that means an argument
abbrev pub word_of : Argument → List ℕ
word_of (file name) = name
word_of (numeral n) = decimal n
word_of (hexadecimal word) = word

-- an argument is of this kind: the name of a file is not empty, a number of 32 bits is within its bounds, and a word in
-- hexadecimal means 1 to 16 bytes
abbrev pub IsOfKind : Kind → Argument → Type 0
IsOfKind kind.File (file name) = name ≢ []
IsOfKind (kind.Number least most) (numeral n) = (least ≤ n) × (n ≤ most) × (n ≤ number_limit)
IsOfKind kind.Hex (hexadecimal word) = (bytes : List ℕ) × IsFill word bytes
IsOfKind _ _ = ⊥

-- the word is of this kind, and means this argument
abbrev pub IsWordFor : Kind → List ℕ → Argument → Type 0
IsWordFor kind word argument = (word ≡ word_of argument) × IsOfKind kind argument

-- words of these kinds mean these arguments, one for one
abbrev pub AreWordsFor : List Kind → List (List ℕ) → List Argument → Type 0
AreWordsFor [] [] [] = Unit {0}
AreWordsFor (kind ∷ kinds) (word ∷ words) (argument ∷ arguments) =
    IsWordFor kind word argument × AreWordsFor kinds words arguments
AreWordsFor _ _ _ = ⊥

-- ---- calls

-- the words are this name and words of these kinds, which mean these arguments
abbrev pub IsCalled : List ℕ → List Kind → List (List ℕ) → List Argument → Type 0
IsCalled name kinds [] arguments = ⊥
IsCalled name kinds (first ∷ words) arguments = (first ≡ name) × AreWordsFor kinds words arguments

-- the words call this command, which has a row in the table, with these arguments
abbrev pub IsCall : {C : Type 0} → List (Row C) → List (List ℕ) → C → List Argument → Type 0
IsCall [] words command arguments = ⊥
IsCall (row ∷ rows) words command arguments =
    ((row.0 ≡ command) × IsCalled row.1 row.2 words arguments) ⊎ IsCall rows words command arguments

-- ---- arguments by their places

-- the name of a file, or no name
abbrev pub name_or_none : Option Argument → List ℕ
name_or_none (Some (file name)) = name
name_or_none _ = []

-- a number, or 0
abbrev pub number_or_zero : Option Argument → ℕ
number_or_zero (Some (numeral n)) = n
number_or_zero _ = 0

-- the word of bytes, or no word
abbrev pub hex_or_none : Option Argument → List ℕ
hex_or_none (Some (hexadecimal word)) = word
hex_or_none _ = []

-- the name of the file at a place, from 0; no name if something else stands there, or nothing
abbrev pub file_given : ℕ → List Argument → List ℕ
file_given place arguments = name_or_none (slice_get arguments place)

-- the number at a place, from 0; 0 if something else stands there, or nothing
abbrev pub number_given : ℕ → List Argument → ℕ
number_given place arguments = number_or_zero (slice_get arguments place)

-- the word of the bytes at a place, from 0; no word if something else stands there, or nothing
abbrev pub hex_given : ℕ → List Argument → List ℕ
hex_given place arguments = hex_or_none (slice_get arguments place)

-- ---- what is read

-- what an argument that was read means
abbrev pub given_argument : Given → Argument
given_argument (given.File name) = file name.now
given_argument (given.Number n) = numeral n
given_argument (given.Hex word) = hexadecimal word.now

-- true if the words are of these kinds, and what they mean was appended; false if they are not
abbrev pub AppendsWords : List Kind → List (List ℕ) → List Given → Bool → List Given → Type 0
AppendsWords kinds words old true new =
    (found : List Given) × (new ≡ old ++ found) × AreWordsFor kinds words (map given_argument found)
AppendsWords kinds words old false new = (arguments : List Argument) → AreWordsFor kinds words arguments → ⊥
