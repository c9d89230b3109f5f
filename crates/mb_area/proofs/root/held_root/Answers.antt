use Rattle.std.proofs.Common.{arith}
use Rattle.mb_format.specs.Format.{IsBytes}
use Rattle.mb_area.proofs.Rooted.{one_held}
use Rattle.mb_area.proofs.root.held_root.Goals as goal

pub unreachable-requires : goal.unreachable-requires
unreachable-requires c = c.in_default.ensures c.requires.root c.requires.holds

pub returns-clause-only : goal.returns-clause-only
returns-clause-only c = λ root holds. (
    let are : IsBytes c.args.area.now = λ i. omega (arith, c.type_inv.area i) in
    one_held c.args.area.now c.in-Some.root root are c.in-Some.ensures holds)
