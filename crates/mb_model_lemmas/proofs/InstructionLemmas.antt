-- Instructions are read exactly.
use Rattle.std.proofs.Common.{◌≡◌, ℕ, List, Some, refl, ap, arith, rules}
use Rattle.std.specs.Int.{w8}
use Rattle.mb_format.specs.Reading.{IsExact}
use Rattle.mb_format.proofs.Rules.{exactly}
use Rattle.mb_format.proofs.Fields.{IsTable, nothing_exact}
use Rattle.mb_model.specs.declared.instruction.Operation.TheVariants as op
use Rattle.mb_model.specs.declared.instruction.Plain.{Plain}
use Rattle.mb_model.specs.declared.instruction.Plain.TheVariants as plain
use Rattle.mb_model.specs.declared.instruction.Opcode.{Opcode}
use Rattle.mb_model.specs.declared.instruction.Opcode.TheVariants as opcode
use Rattle.mb_model.specs.declared.instruction.Instruction.{Instruction}
use Rattle.mb_model.specs.declared.instruction.Instruction.TheVariants as instruction
use Rattle.mb_format.specs.Combinators.{row_of}
use Rattle.mb_model.specs.application.Instructions.{plain_byte, opcode_byte, opcode_rows, opcode_of, pushed_in, jump_in, jump_zero_in, call_in, name_in, instruction_by, instruction_format}

plain_back : (p : Plain) → row_of opcode_rows (plain_byte p) ≡ Some (opcode.Plain p)
plain_back plain.Halt = refl
plain_back plain.Pop = refl
plain_back plain.Dup = refl
plain_back plain.Swap = refl
plain_back plain.Over = refl
plain_back (plain.Compute op.Add) = refl
plain_back (plain.Compute op.Sub) = refl
plain_back (plain.Compute op.Mul) = refl
plain_back (plain.Compute op.Div) = refl
plain_back (plain.Compute op.Rem) = refl
plain_back (plain.Compute op.And) = refl
plain_back (plain.Compute op.Or) = refl
plain_back (plain.Compute op.Xor) = refl
plain_back (plain.Compute op.Equal) = refl
plain_back (plain.Compute op.Less) = refl
plain_back plain.Return = refl
plain_back plain.Load = refl
plain_back plain.Store = refl
plain_back plain.Input = refl
plain_back plain.Length = refl
plain_back plain.Emit = refl

pub opcode_table : IsTable w8 opcode_rows opcode_byte
opcode_table = record { rows_are = search rules; back = elim [ opcode.Plain p ↦ plain_back p | opcode.Push ↦ refl | opcode.Jump ↦ refl | opcode.JumpZero ↦ refl | opcode.Call ↦ refl | opcode.Get ↦ refl ] }

pushed_only : (i : Instruction) (n : ℕ) → pushed_in i ≡ Some n → instruction.Push n ≡ i
pushed_only i n e = grind arith

jump_only : (i : Instruction) (n : ℕ) → jump_in i ≡ Some n → instruction.Jump n ≡ i
jump_only i n e = grind arith

jump_zero_only : (i : Instruction) (n : ℕ) → jump_zero_in i ≡ Some n → instruction.JumpZero n ≡ i
jump_zero_only i n e = grind arith

call_only : (i : Instruction) (n : ℕ) → call_in i ≡ Some n → instruction.Call n ≡ i
call_only i n e = grind arith

name_only : (i : Instruction) (name : List ℕ) → name_in i ≡ Some name → instruction.Get name ≡ i
name_only i name e = grind arith

pub by_exact : (c : Opcode) → IsExact (instruction_by c)
by_exact (opcode.Plain p) = nothing_exact
by_exact opcode.Push = search (exactly, pushed_only) depth 20
by_exact opcode.Jump = search (exactly, jump_only) depth 20
by_exact opcode.JumpZero = search (exactly, jump_zero_only) depth 20
by_exact opcode.Call = search (exactly, call_only) depth 20
by_exact opcode.Get = search (exactly, name_only) depth 20

pub keyed : (c : Opcode) (i : Instruction) → (instruction_by c).Allowed i → opcode_of i ≡ c
keyed (opcode.Plain p) i h = ap opcode_of h
keyed opcode.Push i h = grind arith
keyed opcode.Jump i h = grind arith
keyed opcode.JumpZero i h = grind arith
keyed opcode.Call i h = grind arith
keyed opcode.Get i h = grind arith

pub instruction_exact : IsExact instruction_format
unfolding instruction_format
instruction_exact = search (exactly, opcode_table, by_exact, keyed) depth 20
