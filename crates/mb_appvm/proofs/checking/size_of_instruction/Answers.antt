use Rattle.std.proofs.Common.{ap, sym, ◌∙◌, length, ℕ, List, ◌+◌}
use Rattle.mb_model.specs.declared.instruction.Instruction.{Instruction}
use Rattle.mb_appvm.specs.declared.keyword.Jump.TheVariants as jump
use Rattle.mb_model.specs.application.Instructions.{instruction_format}
use Rattle.mb_appvm.proofs.Sizes.{size_plain, size_push, size_jump, size_get}
use Rattle.mb_appvm.proofs.checking.size_of_instruction.Goals as goal

abbrev size : Instruction → ℕ
size i = length (instruction_format.spelling i)

pub returns-in-Plain-clause-value : goal.returns-in-Plain-clause-value
returns-in-Plain-clause-value c = size_plain c.in-Plain.field-0 ∙ ap size (sym c.in-Plain.is)

pub returns-in-Push-clause-value : goal.returns-in-Push-clause-value
returns-in-Push-clause-value c = size_push c.in-Push.field-0 ∙ ap size (sym c.in-Push.is)

pub returns-in-Jump-clause-value : goal.returns-in-Jump-clause-value
returns-in-Jump-clause-value c = size_jump jump.Always c.in-Jump.field-0 ∙ ap size (sym c.in-Jump.is)

pub returns-in-JumpZero-clause-value : goal.returns-in-JumpZero-clause-value
returns-in-JumpZero-clause-value c = size_jump jump.IfZero c.in-JumpZero.field-0 ∙ ap size (sym c.in-JumpZero.is)

pub returns-in-Call-clause-value : goal.returns-in-Call-clause-value
returns-in-Call-clause-value c = size_jump jump.Calling c.in-Call.field-0 ∙ ap size (sym c.in-Call.is)

pub returns-in-Get-clause-value : goal.returns-in-Get-clause-value
returns-in-Get-clause-value c =
    ap (λ (x : List ℕ). 2 + length x) c.as_slice.ensures ∙ size_get c.in-Get.name ∙ ap size (sym c.in-Get.is)
