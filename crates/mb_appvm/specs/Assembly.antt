-- What an assembler text says, which code it assembles to, and which of its lines is the first that is wrong.
use Rattle.std.specs.Prelude.{◌≡◌, ◌⊎◌, ℕ, ◌+◌, ◌<◌, ◌≤◌, List, [], ◌∷◌, ◌++◌, length, codes, All, flat_map, sum_by}
use Rattle.std.specs.Prelude.{Option, Some, None, Bool, false}
use Rattle.std.specs.List.{AllZip, list_any}
use Rattle.std.specs.Fmt.{decimal}
use Rattle.mb_model.specs.declared.limits.TheConstants.{CODE_LIMIT}
use Rattle.mb_format.specs.Combinators.{same_bytes}
use Rattle.mb_model.specs.chains.Lines.{HasLines}
use Rattle.mb_model.specs.chains.Script.{IsName}
use Rattle.mb_model.specs.declared.instruction.Operation.{Operation}
use Rattle.mb_model.specs.declared.instruction.Operation.TheVariants as op
use Rattle.mb_model.specs.declared.instruction.Plain.{Plain}
use Rattle.mb_model.specs.declared.instruction.Plain.TheVariants as plain
use Rattle.mb_model.specs.declared.instruction.Instruction.{Instruction}
use Rattle.mb_model.specs.declared.instruction.Instruction.TheVariants as instruction
use Rattle.mb_appvm.specs.declared.keyword.Jump.{Jump}
use Rattle.mb_appvm.specs.declared.keyword.Jump.TheVariants as jump
use Rattle.mb_appvm.specs.declared.keyword.Keyword.{Keyword}
use Rattle.mb_appvm.specs.declared.keyword.Keyword.TheVariants as key
use Rattle.mb_appvm.specs.declared.lines.Said.{Said}
use Rattle.mb_appvm.specs.declared.lines.Said.TheVariants as says
use Rattle.mb_model.specs.application.Instructions.{instruction_format}

-- ---- words

abbrev pub operation_word : Operation → List ℕ
operation_word op.Add = codes "add"
operation_word op.Sub = codes "sub"
operation_word op.Mul = codes "mul"
operation_word op.Div = codes "div"
operation_word op.Rem = codes "rem"
operation_word op.And = codes "and"
operation_word op.Or = codes "or"
operation_word op.Xor = codes "xor"
operation_word op.Equal = codes "equal"
operation_word op.Less = codes "less"

abbrev pub plain_word : Plain → List ℕ
plain_word plain.Halt = codes "halt"
plain_word plain.Pop = codes "pop"
plain_word plain.Dup = codes "dup"
plain_word plain.Swap = codes "swap"
plain_word plain.Over = codes "over"
plain_word (plain.Compute operation) = operation_word operation
plain_word plain.Return = codes "return"
plain_word plain.Load = codes "load"
plain_word plain.Store = codes "store"
plain_word plain.Input = codes "input"
plain_word plain.Length = codes "length"
plain_word plain.Emit = codes "emit"

abbrev pub jump_word : Jump → List ℕ
jump_word jump.Always = codes "jump"
jump_word jump.IfZero = codes "jumpzero"
jump_word jump.Calling = codes "call"

-- the first word of a line
abbrev pub keyword_word : Keyword → List ℕ
keyword_word (key.Plain kind) = plain_word kind
keyword_word key.Push = codes "push"
keyword_word (key.Jump kind) = jump_word kind
keyword_word key.Get = codes "get"
keyword_word key.Label = codes "label"

-- ---- lines

-- the jump of a kind to a place
abbrev pub jump_to : Jump → ℕ → Instruction
jump_to jump.Always place = instruction.Jump place
jump_to jump.IfZero place = instruction.JumpZero place
jump_to jump.Calling place = instruction.Call place

-- the first word of an instruction, and its operand, a jump's place as a number
abbrev pub keyword_of_instruction : Instruction → Keyword
keyword_of_instruction (instruction.Plain kind) = key.Plain kind
keyword_of_instruction (instruction.Push number) = key.Push
keyword_of_instruction (instruction.Jump to) = key.Jump jump.Always
keyword_of_instruction (instruction.JumpZero to) = key.Jump jump.IfZero
keyword_of_instruction (instruction.Call to) = key.Jump jump.Calling
keyword_of_instruction (instruction.Get name) = key.Get

abbrev pub operand_of_instruction : Instruction → Option (List ℕ)
operand_of_instruction (instruction.Plain kind) = None
operand_of_instruction (instruction.Push number) = Some (decimal number)
operand_of_instruction (instruction.Jump to) = Some (decimal to)
operand_of_instruction (instruction.JumpZero to) = Some (decimal to)
operand_of_instruction (instruction.Call to) = Some (decimal to)
operand_of_instruction (instruction.Get name) = Some name

-- the first word and the operand of what a line says
abbrev pub keyword_of : Said → Keyword
keyword_of (says.Label name) = key.Label
keyword_of (says.Whole it) = keyword_of_instruction it
keyword_of (says.JumpTo kind name) = key.Jump kind

abbrev pub operand_of : Said → Option (List ℕ)
operand_of (says.Label name) = Some name
operand_of (says.Whole it) = operand_of_instruction it
operand_of (says.JumpTo kind name) = Some name

-- a word alone, or with an operand after one space
abbrev pub line_of_words : List ℕ → Option (List ℕ) → List ℕ
line_of_words word None = word
line_of_words word (Some operand) = word ++ 32 ∷ operand

abbrev pub line_of : Said → List ℕ
line_of meaning = line_of_words (keyword_word (keyword_of meaning)) (operand_of meaning)

-- the name of a label is like a secret's, and does not begin with a digit
pub record IsLabelName (name : List ℕ) : Type 0 where
  pub named : IsName name
  pub worded : (digit : ℕ) (rest : List ℕ) → name ≡ digit ∷ rest → 48 ≤ digit → 57 < digit

-- what a line can say: an operand fits its bytes
abbrev pub IsSayable : Said → Type 0
IsSayable (says.Label name) = IsLabelName name
IsSayable (says.Whole it) = instruction_format.Allowed it
IsSayable (says.JumpTo kind name) = IsLabelName name

-- what a line says
pub record SaysAssemblyLine (line : List ℕ) (meaning : Said) : Type 0 where
  pub sayable : IsSayable meaning
  pub spelled : line ≡ line_of meaning

-- ---- a text

-- how many bytes of code a line makes
abbrev pub size_of : Said → ℕ
size_of (says.Label name) = 0
size_of (says.Whole it) = length (instruction_format.spelling it)
size_of (says.JumpTo kind name) = 3

-- the line is the label with this name
abbrev pub is_label : List ℕ → Said → Bool
is_label name (says.Label other) = same_bytes other name
is_label name (says.Whole it) = false
is_label name (says.JumpTo kind other) = false

-- no two lines are labels with one name
abbrev pub IsNew : Said → List Said → Type 0
IsNew (says.Label name) others = list_any (is_label name) others ≡ false
IsNew (says.Whole it) others = Unit {0}
IsNew (says.JumpTo kind name) others = Unit {0}

abbrev pub LabelsDiffer : List Said → Type 0
LabelsDiffer [] = Unit {0}
LabelsDiffer (meaning ∷ rest) = IsNew meaning rest × LabelsDiffer rest

-- one of the lines gives the label
abbrev pub GivesLabel : List (List ℕ) → List ℕ → Type 0
GivesLabel [] name = ⊥
GivesLabel (line ∷ rest) name = SaysAssemblyLine line (says.Label name) ⊎ GivesLabel rest name

-- a line of the text gives the label to which a line jumps
abbrev pub HasTarget : List (List ℕ) → Said → Type 0
HasTarget lines (says.Label name) = Unit {0}
HasTarget lines (says.Whole it) = Unit {0}
HasTarget lines (says.JumpTo kind name) = GivesLabel lines name

-- The lines at the front of a text are right: each says something, no two give one label, the text gives each label to
-- which they jump, and they make at most 32,768 bytes of code.
pub record AreRight (lines front : List (List ℕ)) (said : List Said) : Type 0 where
  pub worded : AllZip SaysAssemblyLine front said
  pub labels : LabelsDiffer said
  pub targets : All (HasTarget lines) said
  pub short : sum_by size_of said ≤ CODE_LIMIT

-- The line with this number, from 1, is the first that is wrong: the lines before it are right, and with it they are
-- not. The lines before it are right among all lines of the text: a line may name a label that a later one gives. So
-- this is no `first wrong line` of a grammar.
pub record FailsAssembly (lines : List (List ℕ)) (line_number : ℕ) : Type 0 where
  pub before : List (List ℕ)
  pub line : List ℕ
  pub later : List (List ℕ)
  pub split : lines ≡ before ++ line ∷ later
  pub said : List Said
  pub right : AreRight lines before said
  pub wrong : (more : List Said) → AreRight lines (before ++ line ∷ []) more → ⊥
  pub number : line_number ≡ length before + 1

-- ---- its code

-- the value of a label: the size of the code before it
pub record IsPlaced (said : List Said) (name : List ℕ) (place : ℕ) : Type 0 where
  pub before : List Said
  pub after : List Said
  pub split : said ≡ before ++ says.Label name ∷ after
  pub size : place ≡ sum_by size_of before

-- the bytes of code that a line makes, among all lines
abbrev pub Makes : List Said → Said → List ℕ → Type 0
Makes all (says.Label name) bytes = bytes ≡ []
Makes all (says.Whole it) bytes = bytes ≡ instruction_format.spelling it
Makes all (says.JumpTo kind name) bytes =
    (place : ℕ) × IsPlaced all name place × (bytes ≡ instruction_format.spelling (jump_to kind place))

-- the bytes of a line, as they are
abbrev pub piece : List ℕ → List ℕ
piece bytes = bytes

-- The lines are right, and the code is made of what they make, in order.
pub record IsAssembly (lines : List (List ℕ)) (code : List ℕ) : Type 0 where
  pub said : List Said
  pub right : AreRight lines lines said
  pub pieces : List (List ℕ)
  pub made : AllZip (Makes said) said pieces
  pub whole : code ≡ flat_map piece pieces

-- a text assembles to a code
pub record Assembles (text code : List ℕ) : Type 0 where
  pub lines : List (List ℕ)
  pub has : HasLines text lines
  pub stands : IsAssembly lines code

-- the line of a text with this number is the first that is wrong
pub record AssemblyFailsAt (text : List ℕ) (line_number : ℕ) : Type 0 where
  pub lines : List (List ℕ)
  pub has : HasLines text lines
  pub fails : FailsAssembly lines line_number
