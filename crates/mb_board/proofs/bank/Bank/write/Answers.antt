use Rattle.std.proofs.Common.{length, ap, arith}
use Rattle.mb_board.specs.Shown.{BankContents}
use Rattle.mb_board.proofs.Sectors.{same-put}
use Rattle.mb_board.proofs.bank.Bank.write.Goals as goal

pub invariant_of-self : goal.invariant_of-self
invariant_of-self c =
    let size = ap (λ (bank : BankContents). length bank.bytes) c.self.view_is in
    rw c.write.ensures
    (same-put _ _ _ _ _ _ c.self.invariant (omega (arith, size)) record { least = omega arith; most = omega arith })
