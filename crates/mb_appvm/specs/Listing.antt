-- The text that is written of a code: a line for each instruction. Does it assemble to the same code?
use Rattle.std.specs.Prelude.{◌≡◌, ◌≢◌, ℕ, ◌≤◌, List, [], ◌++◌, length, map, All, flat_map, Result, Ok, Err}
use Rattle.mb_model.specs.declared.limits.TheConstants.{CODE_LIMIT}
use Rattle.mb_model.specs.chains.Lines.{text_of}
use Rattle.mb_appvm.specs.declared.disassembling.DisasmEnd.{DisasmEnd}
use Rattle.mb_appvm.specs.declared.disassembling.DisasmEnd.TheVariants as end
use Rattle.mb_model.specs.declared.instruction.Instruction.{Instruction}
use Rattle.mb_appvm.specs.declared.lines.Said.TheVariants as says
use Rattle.mb_model.specs.application.Instructions.{instruction_format, Stands}
use Rattle.mb_appvm.specs.Assembly.{line_of, Assembles, AssemblyFailsAt}

-- the line of an instruction, with a jump's place as a number
abbrev pub instruction_line : Instruction → List ℕ
instruction_line it = line_of (says.Whole it)

-- these instructions as bytes, one after another
abbrev pub listing_bytes : List Instruction → List ℕ
listing_bytes listed = flat_map instruction_format.spelling listed

-- the text of a code: the line of each of its instructions
pub record IsListing (code text : List ℕ) : Type 0 where
  pub listed : List Instruction
  pub allowed : All instruction_format.Allowed listed
  pub whole : code ≡ listing_bytes listed
  pub written : text ≡ text_of (map instruction_line listed)

-- Whole instructions lead to this place of a code, where bytes are left and no whole instruction stands.
pub record LacksInstruction (code : List ℕ) (place : ℕ) : Type 0 where
  pub listed : List Instruction
  pub rest : List ℕ
  pub allowed : All instruction_format.Allowed listed
  pub split : code ≡ listing_bytes listed ++ rest
  pub here : place ≡ length (listing_bytes listed)
  pub some : rest ≢ []
  pub none : (it : Instruction) (next : ℕ) → Stands code place it next → ⊥

-- the text of a code was written, or no instruction stands at a place; of a failed allocation nothing is said
abbrev pub DisassemblesTo : List ℕ → Result (List ℕ) DisasmEnd → Type 0
DisassemblesTo code (Ok text) = IsListing code text
DisassemblesTo code (Err (end.NoInstruction at)) = LacksInstruction code at
DisassemblesTo code (Err end.NoMemory) = Unit {0}

-- ---- laws

-- a text assembles to one code, or one line of it is the first that is wrong; never two of either, never both
pub record AssembliesAreClear : Type 0 where
  pub one_code : (text a b : List ℕ) → Assembles text a → Assembles text b → a ≡ b
  pub one_line : (text : List ℕ) (first second : ℕ) → AssemblyFailsAt text first → AssemblyFailsAt text second
      → first ≡ second
  pub never_both : (text code : List ℕ) (line : ℕ) → Assembles text code → AssemblyFailsAt text line → ⊥

-- the text of a code assembles to that code and no other, and no line of it is wrong
pub record ListingsAssemble : Type 0 where
  pub again : (code text : List ℕ) → length code ≤ CODE_LIMIT → IsListing code text → Assembles text code
  pub alone : (code text other : List ℕ) → length code ≤ CODE_LIMIT → IsListing code text → Assembles text other
      → other ≡ code
  pub never_wrong : (code text : List ℕ) (line : ℕ) → length code ≤ CODE_LIMIT → IsListing code text
      → AssemblyFailsAt text line → ⊥
