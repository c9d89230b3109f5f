use Rattle.std.proofs.Common.{arith, ap, ◌∙◌, length}
use Rattle.mb_format.specs.Format.{IsBytes}
use Rattle.mb_image.proofs.Sectors.{entry_whole, entry_left, entry_failed}
use Rattle.mb_image.proofs.segments.entry_in.Goals as goal

pub returns-in_default : goal.returns-in_default
returns-in_default c =
    let are : IsBytes c.args.text.now = λ i. omega (arith, c.type_inv.text i) in
    entry_failed c.args.text.now c.new-cursor.result.bytes.now c.new-cursor.result.offset c.in_default.field-0.at are c.new-cursor.ensures.all c.new-cursor.ensures.first c.in_default.ensures.fails

pub returns-then-left-gt0 : goal.returns-then-left-gt0
returns-then-left-gt0 c =
    let are : IsBytes c.args.text.now = λ i. omega (arith, c.type_inv.text i) in
    let size = ap length (c.in-Ok.ensures.bytes ∙ c.new-cursor.ensures.all) in
    entry_left c.args.text.now c.new-cursor.result.bytes.now c.in-Ok.entry c.new-cursor.result.offset c.read_entry.new.c.offset are c.new-cursor.ensures.all c.new-cursor.ensures.first c.in-Ok.ensures.spelled
    (omega (arith, size, c.left.ensures))

pub returns : goal.returns
returns c =
    let size = ap length (c.in-Ok.ensures.bytes ∙ c.new-cursor.ensures.all) in
    entry_whole c.args.text.now c.new-cursor.result.bytes.now c.in-Ok.entry c.new-cursor.result.offset c.read_entry.new.c.offset c.new-cursor.ensures.all c.new-cursor.ensures.first c.in-Ok.ensures.spelled
    (omega (arith, size, c.left.ensures))
