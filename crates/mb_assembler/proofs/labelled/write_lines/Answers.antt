use Rattle.std.proofs.Common.{arith, rules}
use Rattle.mb_appvm.proofs.Listings.{goes_down}
use Rattle.mb_assembler.proofs.Writing.{none_written, next_stands, one_written, all_written}
use Rattle.mb_assembler.proofs.labelled.write_lines.Goals as goal

pub loop-place-init : goal.loop-place-init
loop-place-init c = none_written c.args.code.now c.args.marks.now c.new-text.result.items c.requires.marked (search rules)

pub loop-place-smaller : goal.loop-place-smaller
loop-place-smaller c = goes_down c.args.code.now c.loop-place.place c.in-Some.next c.in-Some.instruction c.in-Some.ensures c.loop-place-test.true

pub loop-place-preserved : goal.loop-place-preserved
loop-place-preserved c =
    one_written c.args.code.now c.args.marks.now c.loop-place.place c.in-Some.next c.in-Some.instruction c.loop-place.text.items c.put_text.new.out.items c.are_bytes.ensures
    c.loop-place.invariant c.loop-place-test.true c.in-Some.ensures c.in_ok-put_text-in-Some.ensures.items

pub unreachable-requires : goal.unreachable-requires
unreachable-requires c =
    let next = next_stands c.args.code.now c.args.marks.now c.loop-place.place c.loop-place.text.items c.loop-place.invariant c.loop-place-test.true in
    c.in-None.ensures next.it next.next next.stands

pub returns : goal.returns
returns c = all_written c.args.code.now c.args.marks.now c.loop-place.place c.loop-place.text.items c.loop-place.invariant (omega (arith, c.loop-place-test.false))
