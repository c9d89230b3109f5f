use Rattle.std.proofs.Common.{arith}
use Rattle.mb_format.specs.Format.{IsBytes}
use Rattle.mb_model_lemmas.proofs.OneFlash.{one_header_begun}
use Rattle.mb_device_orders.proofs.header.stored_header.Goals as goal

pub returns : goal.returns
returns c = λ header begins. (
    let are : IsBytes c.args.sector.now = λ i. omega (arith, c.type_inv.sector i) in
    one_header_begun c.args.sector.now header _ are begins c.in-Some.ensures)
