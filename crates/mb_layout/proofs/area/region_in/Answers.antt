use Rattle.std.proofs.Common.{arith}
use Rattle.mb_format.specs.Format.{IsBytes}
use Rattle.mb_layout.proofs.Areas.{region_none, some_left}
use Rattle.mb_layout.proofs.area.region_in.Goals as goal

pub returns-in_default : goal.returns-in_default
returns-in_default c = λ region h. c.in_default.ensures h.bytes h.holds

pub returns-in-Err-Bad : goal.returns-in-Err-Bad
returns-in-Err-Bad c =
    let are : IsBytes c.args.area.now = λ i. omega (arith, c.type_inv.area i) in
    let fails = rw c.in-Err-Bad.field-0-is at c.in-Err-Bad.ensures in
    region_none are (some_left _ c.if-is_empty.ensures) c.in-Some.ensures fails
