use Rattle.std.proofs.Common.{inr, arith}
use Rattle.mb_format.specs.Format.{IsBytes}
use Rattle.mb_device_orders.proofs.Judgement.{no_order}
use Rattle.mb_device_orders.proofs.judging.read_text.Goals as goal

pub returns-in-Err-Bad : goal.returns-in-Err-Bad
returns-in-Err-Bad c =
    let are : IsBytes c.args.text.now = λ i. omega (arith, c.type_inv.text i) in
    inr (c.reply.ensures, no_order c.args.text.now c.in-Err-Bad.field-0 c.in-Err-Bad.field-0-0 c.in-Err-Bad.field-0-is are c.in-Err-Bad.ensures.reads)
