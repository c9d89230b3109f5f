use Rattle.mb_bytes.proofs.Putting.{puts_both}
use Rattle.mb_fleet.proofs.answer.put_code_words.Goals as goal

pub returns : goal.returns
returns c =
    let r = c.put_refused_place.result in
    puts_both _ _ r c.in_ok-put_slice.ensures.puts (puts_both _ _ r c.in_ok-put_number.ensures c.put_refused_place.ensures)
