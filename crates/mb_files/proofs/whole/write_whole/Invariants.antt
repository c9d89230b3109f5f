-- The bytes before the rest were appended, and no fault came.
use Rattle.std.proofs.Common.{◌≡◌, ◌≤◌, ℕ, length, take, drop}
use Rattle.std.specs.Io.KnownBytes.{Appends}
use Rattle.mb_files.proofs.whole.write_whole.Given as goal

abbrev pub invariant-loop-rest : goal.invariant-loop-rest
invariant-loop-rest g l = record {
  written : (n : ℕ) × (n ≤ length l.bytes) × (l.rest ≡ drop n l.bytes) × Appends (g.S.Sink.held l.initial.sink) (g.S.Sink.held l.sink) (take n l.bytes);
  fine : l.faults ≡ l.initial.faults;
}

abbrev pub decreases-loop-rest : goal.decreases-loop-rest
decreases-loop-rest g l = length l.rest
