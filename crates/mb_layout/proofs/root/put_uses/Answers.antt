use Rattle.std.proofs.Common.{◌≡◌, ℕ, ◌%◌, ◌∷◌, [], ap, arith}
use Rattle.std.specs.Int.{w8}
use Rattle.mb_format.specs.Combinators.{number_bytes}
use Rattle.mb_layout.proofs.root.put_uses.Goals as goal

low_byte : (n : ℕ) → number_bytes w8 (n % 256) ≡ number_bytes w8 n
unfolding number_bytes
low_byte n =
    let same : n % 256 % 256 ≡ n % 256 = omega arith in
    ap (λ (k : ℕ). k ∷ []) same

pub returns : goal.returns
returns c = rw (← low_byte c.args.uses) c.put_u8.ensures.puts
