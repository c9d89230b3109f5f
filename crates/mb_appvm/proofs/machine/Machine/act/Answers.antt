use Rattle.std.proofs.Common.{subst, sym, ap, ◌∙◌, ℕ}
use Rattle.mb_model.specs.declared.instruction.Instruction.{Instruction}
use Rattle.mb_appvm.specs.Acting.{surroundings_of, DoesOn}
use Rattle.mb_appvm.proofs.Actions.{jumps}
use Rattle.mb_appvm.proofs.machine.Machine.act.Goals as goal

pub returns-in-Jump : goal.returns-in-Jump
returns-in-Jump c =
    subst (λ (i : Instruction). DoesOn (surroundings_of c.args.environment.now) i c.args.next c.args.self.now c.go-in-Jump.result c.go-in-Jump.new.self) (sym c.in-Jump.is)
    (jumps (surroundings_of c.args.environment.now) c.in-Jump.to c.args.next c.args.self.now c.go-in-Jump.new.self c.go-in-Jump.result c.go-in-Jump.ensures.goes
    (c.go-in-Jump.ensures.place ∙ ap (λ (n : ℕ). record c.args.self.now { place = n }) c.from.ensures))
