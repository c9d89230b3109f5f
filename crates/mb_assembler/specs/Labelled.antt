-- The listing of a code with labels and places. Does each line stand for the instruction at its place, and each label
-- for a place to which the code goes?
use Rattle.std.specs.Prelude.{◌≡◌, ℕ, ◌+◌, ◌==◌, Bool, false, if◌then◌else◌, List, [], ◌∷◌, ◌++◌, length, codes}
use Rattle.std.specs.Prelude.{All, flat_map, Result, Ok, Err}
use Rattle.std.specs.List.{list_any}
use Rattle.std.specs.Fmt.{decimal}
use Rattle.mb_model.specs.outside.Texts.{line_with_lf}
use Rattle.mb_model.specs.declared.instruction.Instruction.{Instruction}
use Rattle.mb_model.specs.declared.instruction.Instruction.TheVariants as instruction
use Rattle.mb_model.specs.application.Instructions.{instruction_format}
use Rattle.mb_appvm.specs.declared.disassembling.DisasmEnd.{DisasmEnd}
use Rattle.mb_appvm.specs.declared.disassembling.DisasmEnd.TheVariants as end
use Rattle.mb_appvm.specs.Listing.{instruction_line, listing_bytes, LacksInstruction}

-- ---- places

-- an instruction, and the offset of its first byte in the code
pub record PlacedInstruction : Type 0 where
  pub place : ℕ
  pub it : Instruction

-- instructions one after another, of which the first stands at this place
abbrev pub placed_from : ℕ → List Instruction → List PlacedInstruction
placed_from place [] = []
placed_from place (it ∷ rest) =
    record { place = place; it = it } ∷ placed_from (place + length (instruction_format.spelling it)) rest

-- one of these instructions stands at the place
abbrev pub has_instruction : List PlacedInstruction → ℕ → Bool
has_instruction all place = list_any (λ each. each.place == place) all

-- an instruction is a jump, a jump if zero or a call to the place
abbrev pub goes_to : ℕ → Instruction → Bool
goes_to place (instruction.Jump to) = to == place
goes_to place (instruction.JumpZero to) = to == place
goes_to place (instruction.Call to) = to == place
goes_to place _ = false

-- one of these instructions goes to the place
abbrev pub some_goes_to : List PlacedInstruction → ℕ → Bool
some_goes_to all place = list_any (λ each. goes_to place each.it) all

-- ---- lines

-- the name of the label of a place
abbrev pub label_of_place : ℕ → List ℕ
label_of_place place = codes "at_" ++ decimal place

-- what stands for the place to which a jump or a call goes: its label if an instruction stands there, and else its
-- number
abbrev pub target_word : (ℕ → Bool) → ℕ → List ℕ
target_word stands to = if stands to then label_of_place to else decimal to

-- the words of an instruction
abbrev pub words_with_label : (ℕ → Bool) → Instruction → List ℕ
words_with_label stands (instruction.Jump to) = codes "jump " ++ target_word stands to
words_with_label stands (instruction.JumpZero to) = codes "jumpzero " ++ target_word stands to
words_with_label stands (instruction.Call to) = codes "call " ++ target_word stands to
words_with_label stands it = instruction_line it

-- the line of an instruction: its words, and its place
abbrev pub line_with_place : (ℕ → Bool) → PlacedInstruction → List ℕ
line_with_place stands here = words_with_label stands here.it ++ (codes " ; " ++ decimal here.place)

-- the line of the label of a place, if a jump or a call goes there
abbrev pub label_text : (ℕ → Bool) → ℕ → List ℕ
label_text reached place = if reached place then line_with_lf (codes "label " ++ label_of_place place) else []

-- the text of an instruction: the line of its label, if it has one, and its own
abbrev pub instruction_text : (ℕ → Bool) → (ℕ → Bool) → PlacedInstruction → List ℕ
instruction_text stands reached here = label_text reached here.place ++ line_with_lf (line_with_place stands here)

-- the text of instructions at their places
abbrev pub text_of_placed : List PlacedInstruction → List ℕ
text_of_placed all = flat_map (instruction_text (has_instruction all) (some_goes_to all)) all

-- the text of all instructions of a code, in order
unfoldable pub labelled_text : List Instruction → List ℕ
labelled_text listed = text_of_placed (placed_from 0 listed)

-- ---- the call

-- the text of a code: that of its instructions
pub record IsLabelledListing (code text : List ℕ) : Type 0 where
  pub listed : List Instruction
  pub allowed : All instruction_format.Allowed listed
  pub whole : code ≡ listing_bytes listed
  pub written : text ≡ labelled_text listed

-- the text of a code was written, or no instruction stands at a place; of a failed allocation nothing is said
abbrev pub ListsWithLabels : List ℕ → Result (List ℕ) DisasmEnd → Type 0
ListsWithLabels code (Ok text) = IsLabelledListing code text
ListsWithLabels code (Err (end.NoInstruction at)) = LacksInstruction code at
ListsWithLabels code (Err end.NoMemory) = Unit {0}
