-- Buffers that were filled.
use Rattle.std.proofs.Common.{◌≡◌, ℕ, List, length, take, drop, ◌++◌, ◌∙◌, ap}
use Rattle.std.proofs.Math.Seq.{take-append_seam}

-- a buffer that was filled holds what was copied there
pub filled_whole : (n : ℕ) (out rest : List ℕ) → n ≡ length out → take n (out ++ drop (length out) rest) ≡ out
filled_whole n out rest is = ap (λ k. take k (out ++ drop (length out) rest)) is ∙ take-append_seam out (drop (length out) rest)
