use Rattle.std.proofs.Common.{arith, subst}
use Rattle.mb_format.specs.Format.{IsBytes}
use Rattle.mb_model.specs.records.OrderFormat.{order_format}
use Rattle.mb_model.proofs.OrderFormatLaws.{order_exact}
use Rattle.mb_bytes.specs.Reads.{FailsWholeAt}
use Rattle.mb_bytes.specs.declared.end.ReadEnd.{ReadEnd}
use Rattle.mb_bytes.specs.Ends.{end_at}
use Rattle.mb_layout.proofs.Areas.{spells_none}
use Rattle.mb_officer.proofs.order_line.order_of.Goals as goal

pub returns-in-Err-Bad : goal.returns-in-Err-Bad
returns-in-Err-Bad c =
    let are : IsBytes c.args.bytes.now = λ i. omega (arith, c.type_inv.bytes i) in
    spells_none {bytes = c.args.bytes.now} {at = c.in-Err-Bad.field-0-0} order_exact are
    (subst (λ (e : ReadEnd). FailsWholeAt order_format c.args.bytes.now (end_at e)) c.in-Err-Bad.field-0-is c.in-Err-Bad.ensures.reads)
