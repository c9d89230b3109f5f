use Rattle.std.proofs.Common.{ap, ◌∙◌, length, arith}
use Rattle.mb_bytes.proofs.Exactly.{whole_read, whole_left}
use Rattle.mb_bytes.proofs.field.read_whole.Goals as goal

pub returns-then-left-gt0 : goal.returns-then-left-gt0
returns-then-left-gt0 g c =
    let start = c.new-cursor.ensures in
    let read = c.in_ok-value.ensures in
    let size = ap length (read.bytes ∙ start.all) in
    rw (c.bad.ensures, c.offset.ensures) (whole_left c.args.bytes.now g.met.F.Field.exact start.all start.first read (omega (arith, size, c.left.ensures)))

pub returns : goal.returns
returns g c =
    let start = c.new-cursor.ensures in
    let read = c.in_ok-value.ensures in
    let size = ap length (read.bytes ∙ start.all) in
    whole_read c.args.bytes.now g.met.F.Field.exact start.all start.first read (omega (arith, size, c.left.ensures))
