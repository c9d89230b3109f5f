use Rattle.std.proofs.Common.{arith, refl}
use Rattle.mb_format.specs.Format.{IsBytes}
use Rattle.mb_migrate.proofs.Areas.{begins}
use Rattle.mb_migrate.proofs.area.record_at_start.Goals as goal

pub returns : goal.returns
returns c =
    let are : IsBytes c.args.area.now = λ i. omega (arith, c.type_inv.area i) in
    let p = c.in_ok-number.ensures.cases in
    begins are p.0 p.1 p.2 c.from_be_bytes-length.ensures (omega arith) (omega arith) refl
