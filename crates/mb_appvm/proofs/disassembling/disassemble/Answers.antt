use Rattle.std.proofs.Common.{List, ℕ, arith, sym, subst}
use Rattle.mb_appvm.specs.Assembly.{Assembles}
use Rattle.mb_appvm.proofs.Listings.{list_one, lacks_here, goes_down, listed_all, assembles_again}
use Rattle.mb_appvm.proofs.disassembling.disassemble.Goals as goal

pub loop-place-smaller : goal.loop-place-smaller
loop-place-smaller c = goes_down c.args.code.now c.loop-place.place c.in-Some.next c.in-Some.instruction c.in-Some.ensures c.loop-place-test.true

pub loop-place-preserved : goal.loop-place-preserved
loop-place-preserved c =
    let puts = c.in_ok-put_line-in-Some.ensures in
    list_one c.args.code.now c.loop-place.place c.in-Some.next c.in-Some.instruction c.loop-place.text.items c.put_line.new.out.items c.loop-place.invariant
    c.in-Some.ensures puts.items

pub returns-in-None-clause-written : goal.returns-in-None-clause-written
returns-in-None-clause-written c =
    lacks_here c.args.code.now c.loop-place.place c.loop-place.text.items c.loop-place.invariant c.loop-place-test.true c.in-None.ensures

pub returns-clause-again : goal.returns-clause-again
returns-clause-again c =
    subst (λ (x : List ℕ). Assembles x c.args.code.now) (sym c.from_vec.ensures)
    (assembles_again c.args.code.now c.loop-place.text.items c.requires
    (listed_all c.args.code.now c.loop-place.place c.loop-place.text.items c.loop-place.invariant (omega (arith, c.loop-place-test.false))))
