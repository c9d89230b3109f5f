use Rattle.std.proofs.Common.{arith}
use Rattle.mb_format.specs.Format.{IsBytes}
use Rattle.mb_model.proofs.RecordFormatLaws.{root_exact}
use Rattle.mb_layout.proofs.Areas.{area_none}
use Rattle.mb_layout.proofs.area.root_in.Goals as goal

pub returns-in_default : goal.returns-in_default
returns-in_default c = λ root h. c.in_default.ensures h.bytes h.holds

pub returns-in-Err : goal.returns-in-Err
returns-in-Err c =
    let are : IsBytes c.args.area.now = λ i. omega (arith, c.type_inv.area i) in
    area_none root_exact are c.in-Some.ensures c.in-Err.ensures
