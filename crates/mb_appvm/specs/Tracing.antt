-- The line that tells of a step before it is done. Does it name the instruction, and say what stands on the stack and
-- what is written to memory?
use Rattle.std.specs.Prelude.{◌≡◌, ℕ, ◌+◌, ◌-◌, ◌%◌, nat_le, nat_lt, List, [], ◌∷◌, ◌++◌, length, take, drop, get_or}
use Rattle.std.specs.Prelude.{find, flat_map, codes, Option, Some, None, if◌then◌else◌}
use Rattle.std.specs.Fmt.{decimal}
use Rattle.mb_model.specs.declared.limits.TheConstants.{MEMORY_LENGTH}
use Rattle.mb_model.specs.declared.region.Secret.{Secret}
use Rattle.mb_model.specs.machine.LayerEvents.{has_name}
use Rattle.mb_model.specs.declared.instruction.Plain.{Plain}
use Rattle.mb_model.specs.declared.instruction.Plain.TheVariants as plain
use Rattle.mb_model.specs.declared.instruction.Instruction.{Instruction}
use Rattle.mb_model.specs.declared.instruction.Instruction.TheVariants as instruction
use Rattle.mb_model.specs.application.Instructions.{Stands}
use Rattle.mb_model.specs.application.Application.{AppState, Surroundings, AppStep, goes}
use Rattle.mb_model.specs.outside.Texts.{line_with_lf}
use Rattle.mb_model.specs.chains.Lines.{hex_word}
use Rattle.mb_appvm.specs.Listing.{instruction_line}

-- ---- what is written to memory

-- the bytes, if memory has room for them from an address on
abbrev pub if_room : ℕ → List ℕ → Option (List ℕ)
if_room address bytes = if nat_le (address + length bytes) MEMORY_LENGTH then Some bytes else None

-- the value of a secret, if there is one, and memory has room for it
abbrev pub value_if_room : ℕ → Option Secret → Option (List ℕ)
value_if_room address None = None
value_if_room address (Some secret) = if_room address secret.value

-- the bytes that a `get` of a name copies to memory from an address on, with these secrets of its region
abbrev pub copied : ℕ → List ℕ → Option (List Secret) → Option (List ℕ)
copied address name None = None
copied address name (Some secrets) = value_if_room address (find (has_name name) secrets)

-- the address of the first byte that is written, and the bytes, if some are
abbrev pub at_address : ℕ → Option (List ℕ) → Option (ℕ × List ℕ)
at_address address None = None
at_address address (Some bytes) = Some (address, bytes)

-- what an instruction writes to memory that finds these two values on the stack, the second on top
abbrev pub plain_written : Plain → ℕ → ℕ → Option (ℕ × List ℕ)
plain_written plain.Store under top = at_address top (if_room top (under % 256 ∷ []))
plain_written kind under top = None

abbrev pub written_by : Surroundings → Instruction → ℕ → ℕ → Option (ℕ × List ℕ)
written_by seen (instruction.Plain kind) under top = plain_written kind under top
written_by seen (instruction.Get name) under top = at_address under (copied under name (seen.secrets top))
written_by seen it under top = None

-- what an instruction writes to memory with this stack: from which address on, and which bytes; None if it writes none
abbrev pub written : Surroundings → Instruction → List ℕ → Option (ℕ × List ℕ)
written seen it stack =
    if nat_lt (length stack) 2 then None
    else written_by seen it (get_or stack (length stack - 2) 0) (get_or stack (length stack - 1) 0)

-- memory after these bytes were written to it
abbrev pub with_written : Option (ℕ × List ℕ) → List ℕ → List ℕ
with_written None memory = memory
with_written (Some found) memory = take found.0 memory ++ found.1 ++ drop (found.0 + length found.1) memory

-- ---- the parts of the line

-- the number of the step, and its place
abbrev pub place_part : ℕ → ℕ → List ℕ
place_part number place = codes "trace " ++ decimal number ++ codes " at " ++ decimal place ++ codes ": "

-- a value after a space
abbrev pub spaced_value : ℕ → List ℕ
spaced_value value = 32 ∷ decimal value

abbrev pub stack_words : List ℕ → List ℕ
stack_words values = flat_map spaced_value values

-- the values of the stack, the one on top last; or a dash for none
abbrev pub stack_part : List ℕ → List ℕ
stack_part [] = codes "  stack" ++ codes " -"
stack_part (value ∷ values) = codes "  stack" ++ stack_words (value ∷ values)

-- the address of the first byte that is written to memory, and the bytes in hexadecimal; nothing if none is written
abbrev pub memory_part : Option (ℕ × List ℕ) → List ℕ
memory_part None = []
memory_part (Some found) = codes "  memory " ++ decimal found.0 ++ codes "=" ++ hex_word found.1

-- ---- the line

-- the line of a step: the instruction is written as in the text of a code, and two spaces stand before each later part
abbrev pub step_line : ℕ → Surroundings → AppState → Instruction → List ℕ
step_line number seen machine it =
    place_part number machine.place ++ instruction_line it ++ stack_part machine.stack
    ++ memory_part (written seen it machine.stack)

-- the text is the line of the step with this number, for the instruction at the machine's place; none if none is there
abbrev pub TellsStep : ℕ → Surroundings → AppState → Option (List ℕ) → Type 0
TellsStep number seen machine None = (it : Instruction) (next : ℕ) → Stands seen.code machine.place it next → ⊥
TellsStep number seen machine (Some text) =
    (it : Instruction) × (next : ℕ) × Stands seen.code machine.place it next
    × (text ≡ line_with_lf (step_line number seen machine it))

-- ---- law

-- A step that goes on leaves the memory with what its line says that it writes, and as it was if the line says nothing
-- of memory.
abbrev pub TracesAreTrue : Type 0
TracesAreTrue =
    (seen : Surroundings) (machine after : AppState) (it : Instruction) (next : ℕ)
    → Stands seen.code machine.place it next → AppStep seen machine (goes after)
    → after.memory ≡ with_written (written seen it machine.stack) machine.memory
