use Rattle.mb_bytes.proofs.Putting.{puts_both}
use Rattle.mb_segments.proofs.Spelled.{one_text_spelling, two_texts_spelling}
use Rattle.mb_segments.proofs.header.put_texts.Goals as goal

pub returns-in_ok-put_text-in-Some-Some : goal.returns-in_ok-put_text-in-Some-Some
returns-in_ok-put_text-in-Some-Some c =
    let r = c.put_text-in-Some-Some.result in
    let first = rw c.as_slice.ensures at c.in_ok-put_text-in-Some-Some.ensures in
    let second = rw c.as_slice-in-Some-Some.ensures at c.put_text-in-Some-Some.ensures in
    rw (c.in-Some-Some.is-0, c.in-Some-Some.is-1, two_texts_spelling) (puts_both _ _ r c.in_ok-put_u8-in-Some-Some.ensures.puts (puts_both _ _ r first second))

pub returns-in_ok-put_u8-in-Some-None : goal.returns-in_ok-put_u8-in-Some-None
returns-in_ok-put_u8-in-Some-None c =
    let r = c.put_text-in-Some-None.result in
    let first = rw c.as_slice-in-Some-None.ensures at c.put_text-in-Some-None.ensures in
    rw (c.in-Some-None.is-0, c.in-Some-None.is-1, one_text_spelling) (puts_both _ _ r c.in_ok-put_u8-in-Some-None.ensures.puts first)
