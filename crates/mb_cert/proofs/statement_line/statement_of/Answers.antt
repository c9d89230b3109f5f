use Rattle.std.proofs.Common.{arith, subst}
use Rattle.mb_format.specs.Format.{IsBytes}
use Rattle.mb_model.specs.records.ChainFormat.{statement_format}
use Rattle.mb_model.proofs.EntryFormatLaws.{statement_exact}
use Rattle.mb_bytes.specs.Reads.{FailsWholeAt}
use Rattle.mb_bytes.specs.declared.end.ReadEnd.{ReadEnd}
use Rattle.mb_bytes.specs.Ends.{end_at}
use Rattle.mb_layout.proofs.Areas.{spells_none}
use Rattle.mb_cert.proofs.StatementTexts.{too_long}
use Rattle.mb_cert.proofs.statement_line.statement_of.Goals as goal

pub returns-then-bytes-gt-STATEMENT_LIMIT : goal.returns-then-bytes-gt-STATEMENT_LIMIT
returns-then-bytes-gt-STATEMENT_LIMIT c = too_long c.args.bytes.now c.if-bytes-gt-STATEMENT_LIMIT.true

pub returns-in-Err-Bad : goal.returns-in-Err-Bad
returns-in-Err-Bad c =
    let are : IsBytes c.args.bytes.now = λ i. omega (arith, c.type_inv.bytes i) in
    spells_none {bytes = c.args.bytes.now} {at = c.in-Err-Bad.field-0-0} statement_exact are
    (subst (λ (e : ReadEnd). FailsWholeAt statement_format c.args.bytes.now (end_at e)) c.in-Err-Bad.field-0-is c.in-Err-Bad.ensures)
