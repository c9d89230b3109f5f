use Rattle.std.proofs.Common.{arith, refl}
use Rattle.mb_format.specs.Format.{IsBytes}
use Rattle.mb_layout.proofs.Areas.{holds}
use Rattle.mb_layout.proofs.area.record_in.Goals as goal

pub returns-then-is_blank : goal.returns-then-is_blank
returns-then-is_blank c =
    let are : IsBytes c.args.area.now = λ i. omega (arith, c.type_inv.area i) in
    let p = c.in_ok-number.ensures.cases in
    holds are p.0 p.1 p.2 c.from_be_bytes-length.ensures (omega arith) (omega arith) c.split_at.ensures.front c.split_at.ensures.back (c.if-is_blank.ensures.0 refl)
