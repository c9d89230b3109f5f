-- The counts so far, and those of the codes that are left.
use Rattle.std.proofs.Common.{◌≡◌, ◌++◌}
use Rattle.mb_fleet.proofs.Listings.{counts_of}
use Rattle.mb_fleet.proofs.index.CodeIndex.codes.Given as goal

abbrev pub invariant-loop-hash : goal.invariant-loop-hash
invariant-loop-hash l = l.counts ++ counts_of l.hash-iterator ≡ counts_of l.self.serials.entries
