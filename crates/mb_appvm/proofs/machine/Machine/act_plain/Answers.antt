use Rattle.std.proofs.Common.{subst, sym}
use Rattle.mb_model.specs.declared.instruction.Plain.{Plain}
use Rattle.mb_appvm.specs.declared.machine.Step.TheVariants as step
use Rattle.mb_appvm.specs.Acting.{DoesPlainOn}
use Rattle.mb_appvm.proofs.Actions.{halts}
use Rattle.mb_appvm.proofs.machine.Machine.act_plain.Goals as goal

pub returns-in-Halt : goal.returns-in-Halt
returns-in-Halt c =
    subst (λ (p : Plain). DoesPlainOn c.args.input.now p c.args.next c.args.self.now step.Ends c.args.self.now) (sym c.in-Halt.is) (halts c.args.input.now c.args.next c.args.self.now)
