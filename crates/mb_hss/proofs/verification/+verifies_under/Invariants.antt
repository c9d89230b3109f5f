use Rattle.mb_hss.proofs.verification.+verifies_under.Given as goal

abbrev pub decreases-verifies_under : goal.decreases-verifies_under
decreases-verifies_under l = l.below
