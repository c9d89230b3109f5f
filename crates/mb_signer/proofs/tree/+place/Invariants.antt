use Rattle.mb_signer.proofs.tree.+place.Given as goal

abbrev pub decreases-place : goal.decreases-place
decreases-place g l = l.number
