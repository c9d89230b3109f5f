use Rattle.std.proofs.lemmas.Result.{err_from_is_err_and}
use Rattle.mb_model.specs.memories.WrittenFlash.{written_flash}
use Rattle.mb_bytes.proofs.Putting.{puts_stop, puts_stop_later, puts_both}
use Rattle.mb_image.proofs.written.put_flash.Goals as goal

pub returns-in_err-put_code : goal.returns-in_err-put_code
unfolding written_flash
returns-in_err-put_code c =
    rw (err_from_is_err_and c.from_residual-in_err-put_code.result c.from_residual-in_err-put_code.ensures.1).1
    (puts_stop_later c.in_ok-put_header.ensures
    (puts_stop _ c.in_err-put_code.ensures))

pub returns-in_err-put_code-2 : goal.returns-in_err-put_code-2
unfolding written_flash
returns-in_err-put_code-2 c =
    rw (err_from_is_err_and c.from_residual-in_err-put_code-2.result c.from_residual-in_err-put_code-2.ensures.1).1
    (puts_stop_later c.in_ok-put_header.ensures
    (puts_stop_later c.in_ok-put_code.ensures
    (puts_stop _ c.in_err-put_code-2.ensures)))

pub returns-in_err-put_code-3 : goal.returns-in_err-put_code-3
unfolding written_flash
returns-in_err-put_code-3 c =
    rw (err_from_is_err_and c.from_residual-in_err-put_code-3.result c.from_residual-in_err-put_code-3.ensures.1).1
    (puts_stop_later c.in_ok-put_header.ensures
    (puts_stop_later c.in_ok-put_code.ensures
    (puts_stop_later c.in_ok-put_code-2.ensures
    (puts_stop _ c.in_err-put_code-3.ensures))))

pub returns-in_err-put_in_sectors : goal.returns-in_err-put_in_sectors
unfolding written_flash
returns-in_err-put_in_sectors c =
    rw (err_from_is_err_and c.from_residual-in_err-put_in_sectors.result c.from_residual-in_err-put_in_sectors.ensures.1).1
    (puts_stop_later c.in_ok-put_header.ensures
    (puts_stop_later c.in_ok-put_code.ensures
    (puts_stop_later c.in_ok-put_code-2.ensures
    (puts_stop_later c.in_ok-put_code-3.ensures
    (puts_stop _ c.in_err-put_in_sectors.ensures)))))

pub returns-in_err-put_log_sectors : goal.returns-in_err-put_log_sectors
unfolding written_flash
returns-in_err-put_log_sectors c =
    rw (err_from_is_err_and c.from_residual-in_err-put_log_sectors.result c.from_residual-in_err-put_log_sectors.ensures.1).1
    (puts_stop_later c.in_ok-put_header.ensures
    (puts_stop_later c.in_ok-put_code.ensures
    (puts_stop_later c.in_ok-put_code-2.ensures
    (puts_stop_later c.in_ok-put_code-3.ensures
    (puts_stop_later c.in_ok-put_in_sectors.ensures
    (puts_stop _ c.in_err-put_log_sectors.ensures))))))

pub returns : goal.returns
unfolding written_flash
returns c =
    let last = c.put_in_sectors-2 in
    puts_both _ _ last.result c.in_ok-put_header.ensures
    (puts_both _ _ last.result c.in_ok-put_code.ensures
    (puts_both _ _ last.result c.in_ok-put_code-2.ensures
    (puts_both _ _ last.result c.in_ok-put_code-3.ensures
    (puts_both _ _ last.result c.in_ok-put_in_sectors.ensures
    (puts_both _ _ last.result c.in_ok-put_log_sectors.ensures last.ensures)))))
