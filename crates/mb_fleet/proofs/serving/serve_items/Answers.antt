use Rattle.std.proofs.Common.{arith, subst}
use Rattle.mb_bytes.proofs.Putting.{length_items}
use Rattle.mb_fleet.specs.declared.item.Item.{Item}
use Rattle.mb_fleet.specs.Ends.{AppendsStep}
use Rattle.mb_fleet.proofs.Runs.{serving_goes_on, serving_stops}
use Rattle.mb_fleet.proofs.serving.serve_items.Goals as goal

pub loop-item-preserved : goal.loop-item-preserved
loop-item-preserved c = serving_goes_on c.args.root.now c.args.fleet.now c.args.items.now c.loop-item.item-index c.item-item.result c.loop-item-test.true
    c.loop-item.text.items c.serve_item.new.out.items c.loop-item.fleet c.serve_item.new.fleet c.loop-item.invariant
    (subst (λ (x : Item). AppendsStep c.args.root.now c.loop-item.fleet x c.loop-item.text.items c.serve_item.new.out.items c.serve_item.new.fleet) c.item-item.is c.in_ok-serve_item.ensures)
    (omega (arith, length_items c.serve_item.new.out, c.len.ensures, c.if-len-gt-TEXT_LIMIT.false))

pub returns-then-len-gt-TEXT_LIMIT : goal.returns-then-len-gt-TEXT_LIMIT
returns-then-len-gt-TEXT_LIMIT c = serving_stops c.args.root.now c.args.fleet.now c.args.items.now c.loop-item.item-index c.item-item.result c.loop-item-test.true
    c.loop-item.text.items c.serve_item.new.out.items c.loop-item.fleet c.serve_item.new.fleet c.loop-item.invariant
    (subst (λ (x : Item). AppendsStep c.args.root.now c.loop-item.fleet x c.loop-item.text.items c.serve_item.new.out.items c.serve_item.new.fleet) c.item-item.is c.in_ok-serve_item.ensures)
    (omega (arith, length_items c.serve_item.new.out, c.len.ensures, c.if-len-gt-TEXT_LIMIT.true))
