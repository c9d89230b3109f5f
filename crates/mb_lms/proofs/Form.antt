-- The bound of a leaf's number.
use Rattle.std.proofs.lemmas.Nat.{one_shl, pow_below}

pub ruleset form_rules = (one_shl, pow_below)
