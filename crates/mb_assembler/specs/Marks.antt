-- What the marks of a code say. Are the places that are marked those of its instructions, and those to which it goes?
use Rattle.std.specs.Prelude.{◌≡◌, ℕ, ◌<◌, Bool, false, true, List, length, get_or, set, All, Result, Ok, Err}
use Rattle.mb_model.specs.declared.instruction.Instruction.{Instruction}
use Rattle.mb_model.specs.declared.instruction.Instruction.TheVariants as instruction
use Rattle.mb_model.specs.application.Instructions.{instruction_format}
use Rattle.mb_appvm.specs.declared.disassembling.DisasmEnd.{DisasmEnd}
use Rattle.mb_appvm.specs.declared.disassembling.DisasmEnd.TheVariants as end
use Rattle.mb_appvm.specs.Listing.{listing_bytes, LacksInstruction}
use Rattle.mb_assembler.specs.declared.marks.Marks.{Marks}
use Rattle.mb_assembler.specs.Labelled.{PlacedInstruction, placed_from, has_instruction, some_goes_to}

-- the place is marked in a table, which has no mark past its end
abbrev pub is_marked : List Bool → ℕ → Bool
is_marked marks place = get_or marks place false

-- an instruction stands at the place, by the marks
abbrev pub stands_by : Marks → ℕ → Bool
stands_by marks = is_marked marks.instructions.items

-- a jump or a call goes to the place, by the marks
abbrev pub reached_by : Marks → ℕ → Bool
reached_by marks = is_marked marks.targets.items

-- the marks are those of these instructions, in a code of this size
pub record AreMarks (size : ℕ) (all : List PlacedInstruction) (marks : Marks) : Type 0 where
  pub instruction_count : length marks.instructions.items ≡ size
  pub target_count : length marks.targets.items ≡ size
  pub stands : (place : ℕ) → stands_by marks place ≡ has_instruction all place
  pub reached : (place : ℕ) → place < size → reached_by marks place ≡ some_goes_to all place

-- the table of targets once that of an instruction is marked
abbrev pub with_target : Instruction → List Bool → List Bool
with_target (instruction.Jump to) targets = set targets to true
with_target (instruction.JumpZero to) targets = set targets to true
with_target (instruction.Call to) targets = set targets to true
with_target _ targets = targets

-- an instruction was marked at its place, and the place to which it goes
pub record AddsMarks (old : Marks) (place : ℕ) (it : Instruction) (new : Marks) : Type 0 where
  pub instructions : new.instructions.items ≡ set old.instructions.items place true
  pub targets : new.targets.items ≡ with_target it old.targets.items

-- all instructions of a code are marked
pub record HasMarks (code : List ℕ) (marks : Marks) : Type 0 where
  pub listed : List Instruction
  pub allowed : All instruction_format.Allowed listed
  pub whole : code ≡ listing_bytes listed
  pub marked : AreMarks (length code) (placed_from 0 listed) marks

-- the marks are those of a code, or no instruction stands at a place; of a failed allocation nothing is said
abbrev pub MarksCode : List ℕ → Result Marks DisasmEnd → Type 0
MarksCode code (Ok marks) = HasMarks code marks
MarksCode code (Err (end.NoInstruction at)) = LacksInstruction code at
MarksCode code (Err end.NoMemory) = Unit {0}
