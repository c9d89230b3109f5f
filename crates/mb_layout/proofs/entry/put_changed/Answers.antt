use Rattle.std.proofs.lemmas.Result.{err_from_is_err_and}
use Rattle.mb_bytes.proofs.Putting.{puts_both, puts_stop, puts_stop_later}
use Rattle.mb_layout.proofs.entry.put_changed.Goals as goal

pub returns-in_err-put_pair : goal.returns-in_err-put_pair
returns-in_err-put_pair c =
    let p = err_from_is_err_and c.from_residual-in_err-put_pair.result c.from_residual-in_err-put_pair.ensures.1 in
    let kind = rw c.kind_number.ensures at c.in_ok-put_u8.ensures.puts in
    rw p.1 (puts_stop_later kind (puts_stop_later c.in_ok-put_u8-2.ensures.puts (puts_stop _ c.in_err-put_pair.ensures)))

pub returns : goal.returns
returns c =
    let r = c.put_kept.result in
    let kind = rw c.kind_number.ensures at c.in_ok-put_u8.ensures.puts in
    puts_both _ _ r kind (puts_both _ _ r c.in_ok-put_u8-2.ensures.puts (puts_both _ _ r c.in_ok-put_pair.ensures c.put_kept.ensures))
