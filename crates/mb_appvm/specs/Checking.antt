-- How far a text is read and checked, in terms of what its lines say.
use Rattle.std.specs.Prelude.{◌≡◌, ◌⊎◌, ℕ, ◌+◌, ◌<◌, ◌≤◌, List, ◌∷◌, ◌++◌, length, take, All}
use Rattle.std.specs.Prelude.{flat_map, sum_by, slice_index, IsTrue, true, Some, Result, Ok, Err}
use Rattle.std.specs.List.{AllZip, list_any, position_from}
use Rattle.std.specs.Global.{Vec}
use Rattle.mb_model.specs.declared.limits.TheConstants.{CODE_LIMIT}
use Rattle.mb_bytes.specs.Puts.{Appends}
use Rattle.mb_model.specs.chains.Lines.{HasLines}
use Rattle.mb_words.specs.declared.end.TextEnd.{TextEnd}
use Rattle.mb_words.specs.declared.end.TextEnd.TheVariants as end
use Rattle.mb_appvm.specs.declared.lines.Said.{Said}
use Rattle.mb_appvm.specs.declared.lines.Said.TheVariants as says
use Rattle.mb_appvm.specs.Assembly.{SaysAssemblyLine, size_of, is_label, LabelsDiffer, GivesLabel, Makes, piece}
use Rattle.mb_appvm.specs.Assembly.{Assembles, AssemblyFailsAt}

-- a text is lines that say these, and a rest whose first line says nothing
pub record ReadsTo (text : List ℕ) (said : List Said) (rest : List ℕ) : Type 0 where
  pub front : List (List ℕ)
  pub worded : AllZip SaysAssemblyLine front said
  pub forward : (more : List (List ℕ)) → HasLines rest more → HasLines text (front ++ more)
  pub stops : (line : List ℕ) (later : List (List ℕ)) → HasLines rest (line ∷ later)
      → (meaning : Said) → SaysAssemblyLine line meaning → ⊥
  pub few : length said + length rest ≤ length text

-- a line of a text gives the label
pub record TextGives (text name : List ℕ) : Type 0 where
  pub lines : List (List ℕ)
  pub has : HasLines text lines
  pub gives : GivesLabel lines name

-- the label to which a line jumps is among the lines, or in the rest of the text
abbrev pub IsTarget : List Said → List ℕ → Said → Type 0
IsTarget all rest (says.Label name) = Unit {0}
IsTarget all rest (says.Whole it) = Unit {0}
IsTarget all rest (says.JumpTo kind name) = IsTrue (list_any (is_label name) all) ⊎ TextGives rest name

-- the line with this number, from 0, is the first that gives its label
abbrev pub IsFirstLabel : List Said → ℕ → Said → Type 0
IsFirstLabel all at (says.Label name) = position_from (is_label name) 0 all ≡ Some at
IsFirstLabel all at (says.Whole it) = Unit {0}
IsFirstLabel all at (says.JumpTo kind name) = Unit {0}

-- the first lines are right, among all lines and a rest of the text
pub record AreSoundLines (all : List Said) (rest : List ℕ) (front : List Said) : Type 0 where
  pub labels : LabelsDiffer front
  pub targets : All (IsTarget all rest) front
  pub short : sum_by size_of front ≤ CODE_LIMIT

-- this many lines are right, and no more
pub record CountsSound (all : List Said) (rest : List ℕ) (count : ℕ) : Type 0 where
  pub within : count ≤ length all
  pub right : AreSoundLines all rest (take count all)
  pub wrong : count < length all → AreSoundLines all rest (take (count + 1) all) → ⊥

-- the label to which a line jumps is among the lines
abbrev pub IsGiven : List Said → Said → Type 0
IsGiven all (says.Label name) = Unit {0}
IsGiven all (says.Whole it) = Unit {0}
IsGiven all (says.JumpTo kind name) = list_any (is_label name) all ≡ true

-- each line has the length of the code before it, which is at most 32,768 bytes
pub record AreMeasured (all : List Said) (places : List ℕ) : Type 0 where
  pub each : length places ≡ length all
  pub place : (at : ℕ) → at < length all → slice_index places at ≡ sum_by size_of (take at all)
  pub short : (at : ℕ) → at < length all → slice_index places at ≤ CODE_LIMIT

-- the bytes that a line makes were appended; of a failed allocation nothing is said
abbrev pub PutsLine : {E : Type 0} → List Said → Said → Vec ℕ → Result (Unit {0}) E → Vec ℕ → Type 0
PutsLine all line old (Ok u) new = (bytes : List ℕ) × Makes all line bytes × Appends bytes old new
PutsLine all line old (Err e) new = Unit {0}

-- the code of lines
pub record IsCode (all said : List Said) (code : List ℕ) : Type 0 where
  pub pieces : List (List ℕ)
  pub made : AllZip (Makes all) said pieces
  pub whole : code ≡ flat_map piece pieces
  pub size : length code ≡ sum_by size_of said

-- a text was assembled, or a line is the first that is wrong; of a failed allocation nothing is said
abbrev pub AssemblesTo : List ℕ → Result (List ℕ) TextEnd → Type 0
AssemblesTo text (Ok code) = Assembles text code
AssemblesTo text (Err (end.BadLine line)) = AssemblyFailsAt text line
AssemblesTo text (Err end.NoMemory) = Unit {0}
