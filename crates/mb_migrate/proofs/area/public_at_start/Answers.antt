use Rattle.std.proofs.Common.{arith}
use Rattle.mb_format.specs.Format.{IsBytes}
use Rattle.mb_model.proofs.RecordFormatLaws.{public_exact}
use Rattle.mb_migrate.proofs.Areas.{start_none}
use Rattle.mb_migrate.proofs.area.public_at_start.Goals as goal

pub returns-in_default : goal.returns-in_default
returns-in_default c = λ stored h. c.in_default.ensures h.bytes h.begins

pub returns-in-Err-Bad : goal.returns-in-Err-Bad
returns-in-Err-Bad c =
    let are : IsBytes c.args.flash_area.now = λ i. omega (arith, c.type_inv.flash_area i) in
    let fails = rw c.in-Err-Bad.field-0-is at c.in-Err-Bad.ensures in
    start_none public_exact are c.in-Some.ensures fails
