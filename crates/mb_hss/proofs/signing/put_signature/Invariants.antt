use Rattle.std.proofs.Common.{◌+◌, ◌*◌, ◌≤◌, ◌++◌}
use Rattle.mb_bytes.specs.Puts.{Appends}
use Rattle.mb_hss.proofs.MakerLemmas.{front, IsLevelOf}
use Rattle.mb_hss.proofs.signing.put_signature.Given as goal

abbrev pub invariant-loop-above : goal.invariant-loop-above
invariant-loop-above g l = record {
  written : Appends (front l.maker l.number (l.head ++ l.body) l.above) l.fn.out l.out;
  level : IsLevelOf l.maker l.number l.above l.level.seed l.level.index;
  cost : l.hashes ≤ l.fn.hashes + 34401 + 35475 * l.above;
}
