use Rattle.mb_format.specs.Combinators.{number_bytes}
use Rattle.mb_bytes.proofs.puts.put_u16.Goals as goal

pub returns-clause-puts : goal.returns-clause-puts
unfolding number_bytes
returns-clause-puts c = rw (← c.to_be_bytes.ensures) c.put_slice.ensures.puts

pub returns-clause-writes : goal.returns-clause-writes
unfolding number_bytes
returns-clause-writes c = rw (← c.to_be_bytes.ensures) c.put_slice.ensures.writes
