use Rattle.std.proofs.Common.{length}
use Rattle.mb_policy.proofs.Hashes.{IsHashing}
use Rattle.mb_policy.proofs.lines.read_hashes.Given as goal

abbrev pub invariant-loop-word : goal.invariant-loop-word
invariant-loop-word l = IsHashing l.fn.words l.words l.hashes

abbrev pub decreases-loop-word : goal.decreases-loop-word
decreases-loop-word l = length l.words
