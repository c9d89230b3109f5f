use Rattle.std.proofs.Common.{◌≡◌, ◌+◌, ◌-◌, refl, arith}
use Rattle.mb_format.proofs.Fields.{raw_exact}
use Rattle.mb_bytes.proofs.Exactly.{raw_ok, raw_err, is_read}
use Rattle.mb_bytes.proofs.cursor.Cursor.take_slice.Goals as goal

pub returns-then-left-length-clause-reads : goal.returns-then-left-length-clause-reads
returns-then-left-length-clause-reads c = raw_err c.args.length refl (omega arith)

pub returns-clause-reads : goal.returns-clause-reads
returns-clause-reads c = raw_ok c.args.length _ refl refl (omega arith)
    (let n : c.args.self.now.offset + c.args.length - c.args.self.now.offset ≡ c.args.length = omega arith in rw n refl)

pub returns-clause-exactly : goal.returns-clause-exactly
returns-clause-exactly c = is_read (raw_exact c.args.length) (returns-clause-reads c)
