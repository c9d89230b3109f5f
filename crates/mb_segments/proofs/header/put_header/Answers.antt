use Rattle.mb_model.specs.records.HeaderFormat.{header_format}
use Rattle.mb_bytes.proofs.Putting.{puts_both}
use Rattle.mb_segments.proofs.header.put_header.Goals as goal

pub returns : goal.returns
unfolding header_format
returns c =
    let r = c.put_texts.result in
    puts_both _ _ r c.in_ok-put_slice.ensures.puts
    (puts_both _ _ r c.in_ok-put_slot.ensures (puts_both _ _ r c.in_ok-put_slot-2.ensures (puts_both _ _ r c.in_ok-put_slot-3.ensures (puts_both _ _ r c.in_ok-put_u16.ensures.puts c.put_texts.ensures))))
