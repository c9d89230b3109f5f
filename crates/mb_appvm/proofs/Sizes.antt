-- How many bytes instructions have.
use Rattle.std.proofs.Common.{◌≡◌, ℕ, ◌+◌, List, length, refl, arith}
use Rattle.mb_format.specs.Combinators.{number_bytes}
use Rattle.mb_model.specs.declared.instruction.Plain.{Plain}
use Rattle.mb_model.specs.declared.instruction.Instruction.TheVariants as instruction
use Rattle.mb_appvm.specs.declared.keyword.Jump.{Jump}
use Rattle.mb_appvm.specs.declared.keyword.Jump.TheVariants as jump
use Rattle.mb_model.specs.application.Instructions.{instruction_format}
use Rattle.mb_appvm.specs.Assembly.{jump_to}

pub size_plain : (p : Plain) → 1 ≡ length (instruction_format.spelling (instruction.Plain p))
unfolding instruction_format number_bytes
size_plain p = refl

pub size_push : (n : ℕ) → 5 ≡ length (instruction_format.spelling (instruction.Push n))
unfolding instruction_format number_bytes
size_push n = refl

pub size_jump : (kind : Jump) (place : ℕ) → 3 ≡ length (instruction_format.spelling (jump_to kind place))
unfolding instruction_format number_bytes
size_jump jump.Always place = refl
size_jump jump.IfZero place = refl
size_jump jump.Calling place = refl

pub size_get : (name : List ℕ) → 2 + length name ≡ length (instruction_format.spelling (instruction.Get name))
unfolding instruction_format number_bytes
size_get name = omega arith
