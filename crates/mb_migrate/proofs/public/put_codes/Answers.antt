use Rattle.std.proofs.lemmas.Result.{err_from_is_err_and}
use Rattle.mb_model.specs.memories.PublicRecord.{code_format, codes_format}
use Rattle.mb_bytes.proofs.Putting.{puts_both, puts_stop, puts_stop_later}
use Rattle.mb_migrate.proofs.public.put_codes.Goals as goal

pub returns-in_err-put_optional-2 : goal.returns-in_err-put_optional-2
unfolding code_format codes_format
returns-in_err-put_optional-2 c =
    let p = err_from_is_err_and c.from_residual-in_err-put_optional-2.result c.from_residual-in_err-put_optional-2.ensures.1 in
    rw p.1 (puts_stop_later c.in_ok-put_optional.ensures (puts_stop _ c.in_err-put_optional-2.ensures))

pub returns : goal.returns
unfolding code_format codes_format
returns c =
    let r = c.put_optional-3.result in
    puts_both _ _ r c.in_ok-put_optional.ensures (puts_both _ _ r c.in_ok-put_optional-2.ensures c.put_optional-3.ensures)
