use Rattle.std.proofs.Common.{length, ap, ◌∙◌}
use Rattle.std.proofs.lemmas.List.{length-replicate}
use Rattle.mb_model.specs.outside.Board.{zeros}
use Rattle.mb_board.proofs.Sectors.{same-marked}
use Rattle.mb_board.proofs.bank.Bank.clear.Goals as goal

pub invariant_of-self : goal.invariant_of-self
unfolding zeros
invariant_of-self c =
    rw c.mark_all.ensures (same-marked _ _ _ _ c.self.invariant (ap length c.clear.ensures ∙ length-replicate _ 0))
