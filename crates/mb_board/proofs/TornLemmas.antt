-- What a torn write leaves of the memory around its range.
use Rattle.std.proofs.Common.{◌≡◌, ℕ, ◌+◌, ◌≤◌, List, length, ap, ◌∙◌, arith}
use Rattle.mb_model.proofs.Places.{length-put}
use Rattle.mb_board.specs.Calls.{Torn}

pub torn_length : (at n : ℕ) (before after : List ℕ) → Torn at n before after → at + n ≤ length before → length after ≡ length before
torn_length at n before after torn within =
    let size : length torn.written ≡ n = torn.sized in
    ap length torn.whole ∙ length-put at torn.written before (omega arith)
