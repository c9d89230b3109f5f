use Rattle.std.proofs.Common.{◌+◌, ◌-◌, length, arith}
use Rattle.std.proofs.lemmas.Slice.{drop-put_mid}
use Rattle.mb_bytes.proofs.puts.put_at.Goals as goal

pub returns-clause-beyond : goal.returns-clause-beyond
returns-clause-beyond c = drop-put_mid c.args.at (c.args.at + length c.args.piece.now - c.args.at) c.args.out.now c.copy_from_slice.new.self _ (omega arith) (omega arith) (omega (arith, c.copy_from_slice.ensures.len))
