use Rattle.std.proofs.Common.{arith, ap, length}
use Rattle.std.proofs.lemmas.Result.{err_from_is_err_and}
use Rattle.mb_fleet.proofs.Reading.{reading_more, reading_advances, reading_ends_at, reading_is_over}
use Rattle.mb_fleet.proofs.item.read_items.Goals as goal

pub returns-in_err-item_at-clause-read : goal.returns-in_err-item_at-clause-read
returns-in_err-item_at-clause-read c =
    let p = err_from_is_err_and c.from_residual.result c.from_residual.ensures.1 in
    let size = ap length c.loop-cursor.invariant.same in
    rw (p.1, p.2) (reading_ends_at c.args.bytes.now c.loop-cursor.cursor c.loop-cursor.items c.loop-cursor.invariant c.in_err-item_at.field-0.0 c.item_at.new.cursor c.in_err-item_at.ensures.reads
    (omega (arith, size, c.left.ensures, c.loop-cursor-test.true)))

pub loop-cursor-smaller : goal.loop-cursor-smaller
loop-cursor-smaller c =
    let advances = reading_advances c.args.bytes.now c.loop-cursor.cursor c.loop-cursor.items c.loop-cursor.invariant c.in_ok-item_at.field-0 c.item_at.new.cursor c.in_ok-item_at.ensures.reads in
    omega (arith, advances.0, advances.1)

pub loop-cursor-preserved : goal.loop-cursor-preserved
loop-cursor-preserved c = reading_more c.args.bytes.now c.loop-cursor.cursor c.loop-cursor.items c.loop-cursor.invariant c.in_ok-item_at.field-0 c.item_at.new.cursor c.in_ok-item_at.ensures.reads
    c.push.new.self c.in_ok-push.ensures.ok c.in_ok-item_at.ensures.short

pub returns-clause-read : goal.returns-clause-read
returns-clause-read c =
    let size = ap length c.loop-cursor.invariant.same in
    reading_is_over c.args.bytes.now c.loop-cursor.cursor c.loop-cursor.items c.loop-cursor.invariant (omega (arith, size, c.left.ensures, c.loop-cursor-test.false))
