-- So many pairs are there.
use Rattle.std.proofs.Common.{◌≡◌, vec_len}
use Rattle.mb_device_regions.proofs.reserve.Spare.new.Given as goal

abbrev pub invariant-loop : goal.invariant-loop
invariant-loop l = vec_len l.pairs ≡ l.counter
