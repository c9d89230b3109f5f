use Rattle.std.proofs.Common.{◌≡◌, ℕ, ◌++◌, List}
use Rattle.std.specs.Int.{w16, w32, to_be_bytes}
use Rattle.mb_model.specs.signatures.Winternitz.{value_after_count}
use Rattle.mb_lms.proofs.one_time.chain_end.Given as goal

abbrev pub invariant-loop-n : goal.invariant-loop-n
invariant-loop-n l =
    (id : List ℕ) (q chain : ℕ) → l.prefix ≡ id ++ to_be_bytes w32 q ++ to_be_bytes w16 chain →
    l.link ≡ value_after_count id q chain l.first l.n l.fn.value
