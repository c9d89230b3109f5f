use Rattle.std.proofs.lemmas.Result.{err_from_is_err_and}
use Rattle.std.specs.Int.{w16}
use Rattle.mb_format.proofs.Fields.{wide16, number_exact}
use Rattle.mb_bytes.proofs.Exactly.{number_ok, number_err, is_read, is_not_read}
use Rattle.mb_bytes.proofs.cursor.Cursor.take_u16.Goals as goal

pub returns-in_err-take_array-clause-reads : goal.returns-in_err-take_array-clause-reads
returns-in_err-take_array-clause-reads c =
    let p = err_from_is_err_and c.from_residual.result c.from_residual.ensures.1 in
    rw (p.1, p.2) (number_err w16 c.in_err-take_array.ensures.reads)

pub returns-in_err-take_array-clause-exactly : goal.returns-in_err-take_array-clause-exactly
returns-in_err-take_array-clause-exactly c =
    let p = err_from_is_err_and c.from_residual.result c.from_residual.ensures.1 in
    rw (p.1, p.2) (is_not_read (number_exact wide16) (number_err w16 c.in_err-take_array.ensures.reads) c.in_err-take_array.ensures.exactly.left)

pub returns-clause-reads : goal.returns-clause-reads
returns-clause-reads c = rw c.from_be_bytes.ensures (number_ok w16 c.in_ok-take_array.ensures.reads)

pub returns-clause-exactly : goal.returns-clause-exactly
returns-clause-exactly c = rw c.from_be_bytes.ensures (is_read (number_exact wide16) (number_ok w16 c.in_ok-take_array.ensures.reads))
