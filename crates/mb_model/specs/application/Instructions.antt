-- How an instruction is spelled in bytes. Which instruction stands at a place of a code?
use Rattle.std.specs.Prelude.{ℕ, List, [], ◌∷◌, Option, Some, None}
use Rattle.std.specs.Int.{w8, w16, w32}
use Rattle.mb_model.specs.declared.limits.TheConstants.{NAME_LIMIT}
use Rattle.mb_format.specs.Format.{Format, SpelledAt}
use Rattle.mb_format.specs.Combinators.{number, between, table, nothing, sized_that, as_value, led}
use Rattle.mb_model.specs.records.RegionFormat.{is_name}
use Rattle.mb_model.specs.declared.instruction.Operation.TheVariants as op
use Rattle.mb_model.specs.declared.instruction.Plain.{Plain}
use Rattle.mb_model.specs.declared.instruction.Plain.TheVariants as plain
use Rattle.mb_model.specs.declared.instruction.Opcode.{Opcode}
use Rattle.mb_model.specs.declared.instruction.Opcode.TheVariants as opcode
use Rattle.mb_model.specs.declared.instruction.Instruction.{Instruction}
use Rattle.mb_model.specs.declared.instruction.Instruction.TheVariants as instruction

-- the byte of an instruction without an operand
abbrev pub plain_byte : Plain → ℕ
plain_byte plain.Halt = 0x00
plain_byte plain.Pop = 0x02
plain_byte plain.Dup = 0x03
plain_byte plain.Swap = 0x04
plain_byte plain.Over = 0x05
plain_byte (plain.Compute op.Add) = 0x10
plain_byte (plain.Compute op.Sub) = 0x11
plain_byte (plain.Compute op.Mul) = 0x12
plain_byte (plain.Compute op.Div) = 0x13
plain_byte (plain.Compute op.Rem) = 0x14
plain_byte (plain.Compute op.And) = 0x15
plain_byte (plain.Compute op.Or) = 0x16
plain_byte (plain.Compute op.Xor) = 0x17
plain_byte (plain.Compute op.Equal) = 0x18
plain_byte (plain.Compute op.Less) = 0x19
plain_byte plain.Return = 0x23
plain_byte plain.Load = 0x30
plain_byte plain.Store = 0x31
plain_byte plain.Input = 0x40
plain_byte plain.Length = 0x41
plain_byte plain.Emit = 0x42

-- the first byte of an instruction
abbrev pub opcode_byte : Opcode → ℕ
opcode_byte (opcode.Plain kind) = plain_byte kind
opcode_byte opcode.Push = 0x01
opcode_byte opcode.Jump = 0x20
opcode_byte opcode.JumpZero = 0x21
opcode_byte opcode.Call = 0x22
opcode_byte opcode.Get = 0x43

-- the bytes with which an instruction can begin; no other begins one
abbrev pub opcode_rows : List (ℕ × Opcode)
opcode_rows =
    (0x00, opcode.Plain plain.Halt) ∷ (0x01, opcode.Push) ∷ (0x02, opcode.Plain plain.Pop)
    ∷ (0x03, opcode.Plain plain.Dup) ∷ (0x04, opcode.Plain plain.Swap) ∷ (0x05, opcode.Plain plain.Over)
    ∷ (0x10, opcode.Plain (plain.Compute op.Add)) ∷ (0x11, opcode.Plain (plain.Compute op.Sub))
    ∷ (0x12, opcode.Plain (plain.Compute op.Mul)) ∷ (0x13, opcode.Plain (plain.Compute op.Div))
    ∷ (0x14, opcode.Plain (plain.Compute op.Rem)) ∷ (0x15, opcode.Plain (plain.Compute op.And))
    ∷ (0x16, opcode.Plain (plain.Compute op.Or)) ∷ (0x17, opcode.Plain (plain.Compute op.Xor))
    ∷ (0x18, opcode.Plain (plain.Compute op.Equal)) ∷ (0x19, opcode.Plain (plain.Compute op.Less))
    ∷ (0x20, opcode.Jump) ∷ (0x21, opcode.JumpZero) ∷ (0x22, opcode.Call) ∷ (0x23, opcode.Plain plain.Return)
    ∷ (0x30, opcode.Plain plain.Load) ∷ (0x31, opcode.Plain plain.Store) ∷ (0x40, opcode.Plain plain.Input)
    ∷ (0x41, opcode.Plain plain.Length) ∷ (0x42, opcode.Plain plain.Emit) ∷ (0x43, opcode.Get) ∷ []

-- an instruction without its operand
abbrev pub opcode_of : Instruction → Opcode
opcode_of (instruction.Plain kind) = opcode.Plain kind
opcode_of (instruction.Push number) = opcode.Push
opcode_of (instruction.Jump to) = opcode.Jump
opcode_of (instruction.JumpZero to) = opcode.JumpZero
opcode_of (instruction.Call to) = opcode.Call
opcode_of (instruction.Get name) = opcode.Get

-- the operand of an instruction of each kind, if it is of that kind
abbrev pub pushed_in : Instruction → Option ℕ
pushed_in (instruction.Push number) = Some number
pushed_in _ = None

abbrev pub jump_in : Instruction → Option ℕ
jump_in (instruction.Jump to) = Some to
jump_in _ = None

abbrev pub jump_zero_in : Instruction → Option ℕ
jump_zero_in (instruction.JumpZero to) = Some to
jump_zero_in _ = None

abbrev pub call_in : Instruction → Option ℕ
call_in (instruction.Call to) = Some to
call_in _ = None

abbrev pub name_in : Instruction → Option (List ℕ)
name_in (instruction.Get name) = Some name
name_in _ = None

-- what follows the first byte: nothing, a number, or a name after its length
abbrev pub instruction_by : Opcode → Format Instruction
instruction_by (opcode.Plain kind) = nothing (instruction.Plain kind)
instruction_by opcode.Push = as_value (number w32) instruction.Push pushed_in
instruction_by opcode.Jump = as_value (number w16) instruction.Jump jump_in
instruction_by opcode.JumpZero = as_value (number w16) instruction.JumpZero jump_zero_in
instruction_by opcode.Call = as_value (number w16) instruction.Call call_in
instruction_by opcode.Get = as_value (sized_that is_name (between w8 1 NAME_LIMIT)) instruction.Get name_in

-- an instruction in bytes
unfoldable pub instruction_format : Format Instruction
instruction_format = led (table w8 opcode_rows opcode_byte) opcode_of instruction_by

-- the instruction stands at a place of a code, and the next place is the first after it
abbrev pub Stands : List ℕ → ℕ → Instruction → ℕ → Type 0
Stands code place it next = SpelledAt instruction_format.spelling instruction_format.Allowed code place it next
