use Rattle.std.proofs.Common.{length, ap, arith, ◌∙◌}
use Rattle.mb_board.specs.Shown.{BankContents}
use Rattle.mb_model.proofs.Places.{length-part}
use Rattle.mb_board.proofs.Fillings.{length-torn_by}
use Rattle.mb_board.proofs.Sectors.{same-put}
use Rattle.mb_board.proofs.bank.Bank.spoil.Goals as goal

pub invariant_of-self : goal.invariant_of-self
invariant_of-self c =
    let size = ap (λ (bank : BankContents). length bank.bytes) c.self.view_is in
    let count = length-torn_by c.args.tear.now _ ∙ length-part c.args.at c.args.count c.self.inside.bytes.items (omega (arith, size)) in
    rw c.spoil.ensures
    (same-put _ _ _ _ _ _ c.self.invariant (omega (arith, size)) record { least = omega arith; most = omega (arith, count) })
