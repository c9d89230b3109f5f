use Rattle.std.proofs.lemmas.Result.{err_from_is_err_and}
use Rattle.mb_model.specs.memories.WrittenImage.{written_bbram}
use Rattle.mb_bytes.proofs.Putting.{puts_stop, puts_stop_later, puts_both}
use Rattle.mb_image.proofs.written.put_bbram.Goals as goal

pub returns-in_err-put_zeros-3 : goal.returns-in_err-put_zeros-3
unfolding written_bbram
returns-in_err-put_zeros-3 c =
    rw (err_from_is_err_and c.from_residual-in_err-put_zeros-3.result c.from_residual-in_err-put_zeros-3.ensures.1).1
    (puts_stop_later c.in_ok-put_head.ensures
    (puts_stop_later c.in_ok-put_zeros.ensures
    (puts_stop_later c.in_ok-put_root.ensures
    (puts_stop_later c.in_ok-put_zeros-2.ensures
    (puts_stop_later c.in_ok-put_region.ensures
    (puts_stop _ c.in_err-put_zeros-3.ensures))))))

pub returns-in_err-put_region-2 : goal.returns-in_err-put_region-2
unfolding written_bbram
returns-in_err-put_region-2 c =
    rw (err_from_is_err_and c.from_residual-in_err-put_region-2.result c.from_residual-in_err-put_region-2.ensures.1).1
    (puts_stop_later c.in_ok-put_head.ensures
    (puts_stop_later c.in_ok-put_zeros.ensures
    (puts_stop_later c.in_ok-put_root.ensures
    (puts_stop_later c.in_ok-put_zeros-2.ensures
    (puts_stop_later c.in_ok-put_region.ensures
    (puts_stop_later c.in_ok-put_zeros-3.ensures
    (puts_stop _ c.in_err-put_region-2.ensures)))))))

pub returns : goal.returns
unfolding written_bbram
returns c =
    let last = c.put_zeros-4 in
    puts_both _ _ last.result c.in_ok-put_head.ensures
    (puts_both _ _ last.result c.in_ok-put_zeros.ensures
    (puts_both _ _ last.result c.in_ok-put_root.ensures
    (puts_both _ _ last.result c.in_ok-put_zeros-2.ensures
    (puts_both _ _ last.result c.in_ok-put_region.ensures
    (puts_both _ _ last.result c.in_ok-put_zeros-3.ensures
    (puts_both _ _ last.result c.in_ok-put_region-2.ensures last.ensures))))))
