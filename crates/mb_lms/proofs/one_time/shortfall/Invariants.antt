use Rattle.std.proofs.Common.{◌≡◌, ◌*◌, ◌≤◌}
use Rattle.mb_model.specs.signatures.Key.{digit_bits}
use Rattle.mb_model.specs.signatures.Winternitz.{shortfall}
use Rattle.mb_lms.proofs.one_time.shortfall.Given as goal

abbrev pub invariant-loop-i : goal.invariant-loop-i
invariant-loop-i l = record { value : l.sum ≡ shortfall l.hash (digit_bits l.chains) l.i; bound : l.sum ≤ l.greatest * l.i }
