use Rattle.std.proofs.Common.{◌≡◌, ◌%◌, arith}
use Rattle.mb_format.specs.Combinators.{number_bytes}
use Rattle.mb_bytes.proofs.puts.put_u8.Goals as goal

pub returns-clause-puts : goal.returns-clause-puts
unfolding number_bytes
returns-clause-puts c =
    let small : c.args.value % 256 ≡ c.args.value = omega arith in
    rw (small, ← c.to_be_bytes.ensures) c.put_slice.ensures.puts

pub returns-clause-writes : goal.returns-clause-writes
unfolding number_bytes
returns-clause-writes c =
    let small : c.args.value % 256 ≡ c.args.value = omega arith in
    rw (small, ← c.to_be_bytes.ensures) c.put_slice.ensures.writes
