use Rattle.mb_bytes.proofs.Putting.{puts_both}
use Rattle.mb_fleet.proofs.answer.put_device_words.Goals as goal

pub returns : goal.returns
returns c =
    let r = c.put_number.result in
    puts_both _ _ r c.in_ok-put_slice.ensures.puts (puts_both _ _ r (rw c.hex_digits.ensures at c.in_ok-put_word.ensures) c.put_number.ensures)
